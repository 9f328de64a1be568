use Rattle.std.proofs.Common.{◌≡◌, ℕ, ◌+◌, ◌*◌, ◌<◌, length, slice_index}
use Rattle.racp_show.specs.Uses.{IsGreatestUsage}
use Rattle.racp_show.proofs.chart.levels.Given as goal

abbrev pub invariant-loop-column : goal.invariant-loop-column
invariant-loop-column l = record {
  places : length l.levels.items ≡ l.column;
  each : (q : ℕ) → q < l.column → IsGreatestUsage l.net l.starts l.k (q * l.scale.span) (q * l.scale.span + l.scale.span) (slice_index l.levels.items q);
}
