use Rattle.std.proofs.Common.{◌≡◌, ◌+◌, slice_index, arith}
use Rattle.racp_model.specs.Terms.{cost}
use Rattle.racp_clauses.specs.Solutions.{values, cost_place}
use Rattle.racp_clauses.proofs.Values.{at_cost, cost_below}
use Rattle.racp_clauses.proofs.Prices.{cost-least}
use Rattle.racp_clauses.proofs.cost.least_cost.Goals as goal

pub returns-then-upper-least-clause-follows : goal.returns-then-upper-least-clause-follows
returns-then-upper-least-clause-follows c starts capacities h w =
    let p = c.args.net.now in
    let terms = c.args.order.now in
    let top : slice_index c.args.bounds.now.upper (c.job_count.result + c.resource_count.result) ≡ slice_index c.args.bounds.now.upper (cost_place p) = rw (c.job_count.ensures.count, c.resource_count.ensures.count) (omega arith) in
    omega (
      arith,
      top,
      c.upper.ensures.bound,
      c.if-upper-least.true,
      c.least_sum-least.ensures,
      cost_below p terms starts capacities h c.args.bounds.now c.requires.places w,
      cost-least p terms starts capacities c.requires.terms h c.args.bounds.now c.requires.places w,
    )

pub returns-clause-follows : goal.returns-clause-follows
returns-clause-follows c starts capacities h w =
    let p = c.args.net.now in
    let terms = c.args.order.now in
    let at : slice_index (values terms starts capacities) (c.job_count.result + c.resource_count.result) ≡ cost terms capacities = rw (c.job_count.ensures.count, c.resource_count.ensures.count) (at_cost p terms starts capacities h) in
    omega (arith, at, c.least_sum-least.ensures, cost-least p terms starts capacities c.requires.terms h c.args.bounds.now c.requires.places w)
