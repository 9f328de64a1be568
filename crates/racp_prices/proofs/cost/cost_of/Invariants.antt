use Rattle.std.proofs.Common.{◌≡◌, ◌-◌, ◌*◌, ◌≤◌, slice_index}
use Rattle.racp_model.specs.Schedule.{sum_below}
use Rattle.racp_prices.proofs.cost.cost_of.Given as goal

abbrev pub invariant-loop-k : goal.invariant-loop-k
invariant-loop-k l = record {
  sum : l.sum ≡ sum_below l.k (λ k. slice_index l.order-inside.prices.items k * (slice_index l.capacities k - slice_index l.order-inside.owned.items k));
  small : l.sum ≤ l.k * (1000000 * 4294967296);
}
