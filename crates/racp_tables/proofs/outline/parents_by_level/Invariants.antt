use Rattle.std.proofs.Common.{◌≡◌, ℕ, ◌<◌, length, slice_index}
use Rattle.racp_tables.specs.Outlines.{IsPartByLevel}
use Rattle.racp_tables.proofs.outline.parents_by_level.Given as goal

abbrev pub invariant-loop-place : goal.invariant-loop-place
invariant-loop-place l = record {
  count : length l.parents.items ≡ l.place;
  each : (k : ℕ) → k < l.place → IsPartByLevel l.levels k (slice_index l.parents.items k);
}
