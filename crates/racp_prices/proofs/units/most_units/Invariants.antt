use Rattle.std.proofs.Common.{◌≡◌, ℕ, ◌<◌, length, slice_index}
use Rattle.racp_model.specs.Schedule.{roof}
use Rattle.racp_prices.specs.Units.{cut_to}
use Rattle.racp_prices.proofs.units.most_units.Given as goal

abbrev pub invariant-loop-k : goal.invariant-loop-k
invariant-loop-k l = record {
  places : length l.units.items ≡ l.k;
  each : (q : ℕ) → q < l.k → slice_index l.units.items q ≡ cut_to l.order.ceilings q (roof l.net q);
}
