use Rattle.std.proofs.Common.{◌≡◌, ℕ, ◌<◌, length, slice_index}
use Rattle.racp_bounds.specs.Floors.{IsFloor}
use Rattle.racp_bounds.proofs.floor.floors.Given as goal

abbrev pub invariant-loop-k : goal.invariant-loop-k
invariant-loop-k l = record {
  places : length l.units.items ≡ l.k;
  each : (q : ℕ) → q < l.k → IsFloor l.net l.root l.deadline q (slice_index l.units.items q);
}
