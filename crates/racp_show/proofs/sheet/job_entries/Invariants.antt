use Rattle.std.proofs.Common.{◌≡◌, ℕ, ◌<◌, length, slice_index_or}
use Rattle.racp_show.specs.declared.sheet.JobEntry.{JobEntry}
use Rattle.racp_show.specs.Sheets.{IsJobEntry}
use Rattle.racp_show.proofs.sheet.job_entries.Given as goal

abbrev pub invariant-loop-i : goal.invariant-loop-i
invariant-loop-i l = record {
  places : length l.entries.items ≡ l.i;
  each : (q : ℕ) (d : JobEntry) → q < l.i → IsJobEntry l.calendar l.times.net.now l.times.starts.now l.room.latest l.names q (slice_index_or l.entries.items q d);
}
