use Rattle.std.proofs.Common.{◌≡◌, ◌∙◌, ℕ, List, [], All, length, arith, ap, sym, subst}
use Rattle.racp_model.specs.Project.{Project, IsNumber}
use Rattle.racp_model.specs.Window.{Bounds}
use Rattle.racp_delay.specs.Branching.{IsFirstEnd}
use Rattle.racp_delay.proofs.lemmas.Conflicts.{conflict_numbers}
use Rattle.racp_search.proofs.Children.{same_ends}
use Rattle.racp_search.proofs.Freeing.{none_goes, freeing-start, freeing-more, freeing-none, freeing-end, none-free, IsFreeing}
use Rattle.racp_search.proofs.child.free_of.Goals as goal

pub first_end-requires-clause-active : goal.first_end-requires-clause-active
first_end-requires-clause-active g c =
    let v = c.args.node.now in
    let numbers : All (IsNumber (length g.N.OfNetwork.network.jobs)) c.args.active.now = conflict_numbers g.N.OfNetwork.network v.capacities v.early v.time c.args.active.now c.requires.active.conflict in
    subst (λ (p : Project). All (IsNumber (length p.jobs)) c.args.active.now) (sym c.requires.net) numbers

pub returns-in_default : goal.returns-in_default
returns-in_default g c = none-free g.N.OfNetwork.network c.args.node.now c.args.active.now c.new-free.result (c.in_default.ensures c.args.active.now (none_goes c.args.active.now)) c.new-free.ensures

pub loop-job-init : goal.loop-job-init
loop-job-init g c = freeing-start c.args.active.now c.upper-upper.result.now c.in-Some.end c.into_iter-job-iterator.result c.new-free.result (c.into_iter-job-iterator.ensures.into_iter_gives ∙ c.iter-job-items.ensures.same) c.new-free.ensures

pub loop-job-preserved-then-end-upper : goal.loop-job-preserved-then-end-upper
loop-job-preserved-then-end-upper g c =
    freeing-more c.args.active.now c.upper-upper.result.now c.in-Some.end c.loop-job.yielded c.loop-job.job-iterator c.loop-job.free c.in-Some-job.job c.next.new.self c.loop-job.invariant c.in-Some-job.ensures.steps
    c.insert.new.self (omega (arith, c.if-end-upper.true)) c.insert.ensures.inserted

pub loop-job-preserved : goal.loop-job-preserved
loop-job-preserved g c =
    freeing-none c.args.active.now c.upper-upper.result.now c.in-Some.end c.loop-job.yielded c.loop-job.job-iterator c.loop-job.free c.in-Some-job.job c.next.new.self c.loop-job.invariant c.in-Some-job.ensures.steps
    (omega (arith, c.if-end-upper.false))

pub returns : goal.returns
returns g c =
    let v = c.args.node.now in
    let upper : c.upper-upper.result.now ≡ v.window.upper = c.upper-upper.ensures.bounds ∙ ap (λ (w : Bounds). w.upper) c.question.ensures.window in
    let first : IsFirstEnd g.N.OfNetwork.network v.early c.args.active.now c.in-Some.end = same_ends c.args.net.now g.N.OfNetwork.network c.early.result.now v.early c.args.active.now [] c.in-Some.end c.requires.net c.early.ensures.starts c.in-Some.ensures c.args.active.now (none_goes c.args.active.now) in
    freeing-end g.N.OfNetwork.network v c.args.active.now c.in-Some.end c.loop-job.yielded c.loop-job.job-iterator c.loop-job.free first c.in-None.ensures.steps.0
    (subst (λ (xs : List ℕ). IsFreeing c.args.active.now xs c.in-Some.end c.loop-job.yielded c.loop-job.job-iterator c.loop-job.free) upper c.loop-job.invariant)
