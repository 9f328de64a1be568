use Rattle.std.proofs.Common.{◌≡◌, ◌∙◌, ◌+◌, List, ℕ, ap, arith, length}
use Rattle.racp_clauses.specs.Solutions.{values}
use Rattle.racp_clauses.proofs.Ending.{row-places, ending-plan}
use Rattle.racp_clauses.proofs.established.are_the_least.Goals as goal

pub are_least-requires-clause-row : goal.are_least-requires-clause-row
are_least-requires-clause-row g c =
    row-places c.args.net.now c.args.order.now c.as_slice.result.now c.as_slice-2.result.now (ap (λ (xs : List ℕ). length xs) c.as_slice.ensures ∙ c.requires.fit.fits.places)
    (ap (λ (xs : List ℕ). length xs) c.as_slice-2.ensures ∙ c.requires.fit.places) c.in_ok-row.row.items c.deref.result.now c.deref.ensures.value c.in_ok-row.ensures

pub returns-clause-plan : goal.returns-clause-plan
returns-clause-plan g c so =
    let row-is : c.deref.result.now ≡ values c.args.order.now c.args.plan.now.starts.now c.args.plan.now.capacities.now =
    c.deref.ensures.value ∙ (c.in_ok-row.ensures ∙ (ap (λ (xs : List ℕ). values c.args.order.now xs c.as_slice-2.result.now) c.as_slice.ensures ∙ ap (λ (xs : List ℕ). values c.args.order.now c.args.plan.now.starts.now xs) c.as_slice-2.ensures)) in
    ending-plan g.N.OfProblem.problem c.args.net.now c.args.order.now c.deref.result.now c.args.plan.now.starts.now c.args.plan.now.capacities.now (c.job_count.result + c.resource_count.result + 1)
    c.requires.named c.requires.terms c.requires.open row-is (c.are_least.ensures.least so) (omega (arith, c.job_count.ensures.count, c.resource_count.ensures.count)) c.requires.fit
