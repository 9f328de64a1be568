use Rattle.std.proofs.Common.{◌≡◌, ◌∙◌, ℕ, ◌+◌, length, slice_index, ap, arith}
use Rattle.racp_model.specs.Project.{Project}
use Rattle.racp_model.specs.Window.{Bounds}
use Rattle.racp_found.specs.declared.observer.News.TheVariants.{Cost}
use Rattle.racp_clauses.specs.Solutions.{cost_place}
use Rattle.racp_by_clauses.proofs.optimizer.first_draft.Goals as goal

pub hear-requires : goal.hear-requires
hear-requires g c =
    let q = g.P.OfProblem.problem in
    let jobs : length c.args.task.net.now.jobs ≡ length q.network.jobs = ap (λ (p : Project). length p.jobs) c.requires.is_of.network in
    let resources : c.args.task.net.now.resources ≡ q.network.resources = ap (λ (p : Project). p.resources) c.requires.is_of.network in
    let place : c.job_count.result + c.resource_count.result ≡ cost_place q.network = omega (arith, c.job_count.ensures.count, c.resource_count.ensures.count, jobs, resources) in
    let least : c.lower_at.result ≡ slice_index q.root.lower (cost_place q.network) =
    c.lower_at.ensures ∙ ap (λ (b : Bounds). slice_index b.lower (c.job_count.result + c.resource_count.result)) c.requires.is_of.root ∙ ap (slice_index q.root.lower) place in
    c.requires.may (Cost c.lower_at.result) (λ capacities e. omega (arith, least, c.requires.is_of.is_open.least_cost capacities e))
