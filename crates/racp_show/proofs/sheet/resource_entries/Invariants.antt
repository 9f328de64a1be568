use Rattle.std.proofs.Common.{◌≡◌, ℕ, ◌<◌, length, slice_index_or}
use Rattle.racp_show.specs.declared.sheet.ResourceEntry.{ResourceEntry}
use Rattle.racp_show.specs.Sheets.{IsResourceEntry}
use Rattle.racp_show.proofs.sheet.resource_entries.Given as goal

abbrev pub invariant-loop-k : goal.invariant-loop-k
invariant-loop-k l = record {
  places : length l.entries.items ≡ l.k;
  each : (q : ℕ) (d : ResourceEntry) → q < l.k → IsResourceEntry l.net l.order l.plan l.names q (slice_index_or l.entries.items q d);
}
