use Rattle.std.proofs.Common.{◌≡◌, ℕ, ◌<◌, length, map, slice_index, string_bytes}
use Rattle.racp_tables.specs.Outlines.{IsPartById}
use Rattle.racp_tables.proofs.outline.parents_by_id.Given as goal

abbrev pub invariant-loop-place : goal.invariant-loop-place
invariant-loop-place l = record {
  count : length l.parents.items ≡ l.place;
  each : (k : ℕ) → k < l.place → IsPartById (map string_bytes l.ids) k (slice_index l.parents.items k);
}
