use Rattle.std.proofs.Common.{◌≡◌, ℕ, ◌+◌, ◌<◌, slice_index, arith}
use Rattle.racp_model.specs.Schedule.{sum_below}
use Rattle.racp_clauses.specs.Solutions.{values, cost_place}
use Rattle.racp_clauses.specs.Rules.{price_beside}
use Rattle.racp_clauses.proofs.Values.{at_units}
use Rattle.racp_clauses.proofs.Prices.{price-most, units-most}
use Rattle.racp_clauses.proofs.cost.most_units.Goals as goal

pub returns-then-most-others-clause-follows : goal.returns-then-most-others-clause-follows
returns-then-most-others-clause-follows c starts capacities h w =
    let p = c.args.net.now in
    let terms = c.args.order.now in
    let top : slice_index c.args.bounds.now.upper (c.job_count.result + c.resource_count.result) ≡ slice_index c.args.bounds.now.upper (cost_place p) = rw (c.job_count.ensures.count, c.resource_count.ensures.count) (omega arith) in
    omega (
      arith,
      top,
      c.upper-most.ensures.bound,
      c.if-most-others.true,
      c.others_sum-others.ensures,
      price-most p terms starts capacities c.requires.terms h c.args.bounds.now c.requires.places w c.args.k c.requires.resource,
    )

pub returns-clause-follows : goal.returns-clause-follows
returns-clause-follows c starts capacities h w =
    let p = c.args.net.now in
    let terms = c.args.order.now in
    let k : ℕ = c.args.k in
    let others : ℕ = sum_below p.resources (price_beside p terms c.args.bounds.now k) in
    let top : slice_index c.args.bounds.now.upper (c.job_count.result + c.resource_count.result) ≡ slice_index c.args.bounds.now.upper (cost_place p) = rw (c.job_count.ensures.count, c.resource_count.ensures.count) (omega arith) in
    let at : slice_index (values terms starts capacities) (c.job_count-2.result + k) ≡ slice_index capacities k = rw c.job_count-2.ensures.count (at_units p terms starts capacities h k c.requires.resource) in
    let sum : c.others_sum-others.result ≡ others = omega (arith, c.others_sum-others.ensures, c.if-most-others.false, c.upper-most.ensures.small) in
    let most : c.upper-most.result ≡ slice_index c.args.bounds.now.upper (cost_place p) = omega (arith, top, c.upper-most.ensures.bound) in
    let some : 0 < slice_index terms.prices k = omega (arith, c.price_of-price.ensures, c.if-price-eq0.false) in
    let least = units-most p terms starts capacities c.requires.terms h c.args.bounds.now c.requires.places w k c.requires.resource some in
    rw (c.price_of-price.ensures, c.owned_of.ensures.owned, sum, most, at) least
