use Rattle.std.proofs.Common.{◌≡◌, ℕ, ◌<◌, length, slice_index_or}
use Rattle.racp_show.specs.declared.chart.JobRow.{JobRow}
use Rattle.racp_show.specs.Charts.{IsJobRow}
use Rattle.racp_show.proofs.chart.job_rows.Given as goal

abbrev pub invariant-loop-i : goal.invariant-loop-i
invariant-loop-i l = record {
  places : length l.rows.items ≡ l.i;
  each : (q : ℕ) (d : JobRow) → q < l.i → IsJobRow l.times.net.now l.times.starts.now l.scale q (slice_index_or l.rows.items q d);
}
