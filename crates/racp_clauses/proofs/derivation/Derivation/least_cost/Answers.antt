use Rattle.std.proofs.Common.{◌≡◌, ◌∙◌, ◌+◌, slice_index, length, arith, ap, sym}
use Rattle.std.proofs.lemmas.Bool.{eqb-true}
use Rattle.racp_model.specs.Project.{Project}
use Rattle.racp_clauses.specs.Solutions.{cost_place}
use Rattle.racp_clauses.proofs.lemmas.Solutions.{ground-cost}
use Rattle.racp_clauses.proofs.derivation.Derivation.least_cost.Goals as goal

pub returns-clause-least : goal.returns-clause-least
returns-clause-least g c open' whole e =
    let q = g.N.OfProblem.problem in
    let low = slice_index c.self.inside.bounds.lower in
    let place : c.job_count.result + c.resource_count.result ≡ cost_place q.network = omega (arith, c.job_count.ensures.count, c.resource_count.ensures.count, ap (λ (p : Project). length p.jobs) c.requires, ap (λ (p : Project). p.resources) c.requires) in
    let at : low (c.job_count.result + c.resource_count.result) ≡ low (cost_place q.network) = ap low place in
    omega (
      arith,
      c.lower_at.ensures,
      at,
      ground-cost q (record { bounds = c.self.inside.bounds; empty = c.self.inside.empty; clause = c.self.inside.clause.items }) c.self.invariant (omega (arith, eqb-true c.self.inside.clause.len 0 (sym c.is_empty.ensures ∙ c.if-not-is_empty.false), c.self.inside.clause.ok.0)) open' whole e,
    )
