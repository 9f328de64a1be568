use Rattle.std.proofs.Common.{◌≡◌, ℕ, ◌<◌, length, slice_index}
use Rattle.racp_model.specs.Schedule.{IsPeak}
use Rattle.racp_model.proofs.usage.peaks.Given as goal

abbrev pub invariant-loop-k : goal.invariant-loop-k
invariant-loop-k l = record {
  places : length l.units.items ≡ l.k;
  each : (q : ℕ) → q < l.k → IsPeak l.net l.starts q (slice_index l.units.items q);
}
