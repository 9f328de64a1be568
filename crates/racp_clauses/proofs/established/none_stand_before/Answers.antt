use Rattle.std.proofs.Common.{◌≡◌, ◌∙◌, ◌+◌, List, ℕ, ap, arith, length}
use Rattle.racp_clauses.specs.Solutions.{values}
use Rattle.racp_clauses.proofs.Ending.{row-places, ending-first}
use Rattle.racp_clauses.proofs.established.none_stand_before.Goals as goal

pub are_least-requires-clause-row : goal.are_least-requires-clause-row
are_least-requires-clause-row g c =
    row-places c.args.net.now c.args.order.now c.deref.result.now c.as_slice.result.now (c.deref.ensures.len ∙ (c.in_ok-starts.ensures.len ∙ c.job_count.ensures.count))
    (ap (λ (xs : List ℕ). length xs) c.as_slice.ensures ∙ c.requires.units) c.in_ok-row.row.items c.deref-2.result.now c.deref-2.ensures.value c.in_ok-row.ensures

pub returns-clause-none : goal.returns-clause-none
returns-clause-none g c so =
    let row-is : c.deref-2.result.now ≡ values c.args.order.now c.deref.result.now c.args.capacities.now =
    c.deref-2.ensures.value ∙ (c.in_ok-row.ensures ∙ ap (λ (xs : List ℕ). values c.args.order.now c.deref.result.now xs) c.as_slice.ensures) in
    ending-first g.N.OfProblem.problem c.args.net.now c.args.order.now c.deref-2.result.now c.deref.result.now c.args.capacities.now (c.resource_count.result + 1)
    c.requires.named c.requires.terms c.requires.open row-is (c.are_least.ensures.least so) (omega (arith, c.resource_count.ensures.count))
    (c.deref.ensures.len ∙ (c.in_ok-starts.ensures.len ∙ c.job_count.ensures.count)) c.requires.units
