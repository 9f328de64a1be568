use Rattle.std.proofs.Common.{◌≡◌, ℕ, ◌<◌, length, slice_index_or}
use Rattle.racp_show.specs.declared.chart.ResourceRow.{ResourceRow}
use Rattle.racp_show.specs.Charts.{IsResourceRow}
use Rattle.racp_show.proofs.chart.resource_rows.Given as goal

abbrev pub invariant-loop-k : goal.invariant-loop-k
invariant-loop-k l = record {
  places : length l.rows.items ≡ l.k;
  each : (q : ℕ) (d : ResourceRow) → q < l.k → IsResourceRow l.net l.plan l.deadline l.scale q (slice_index_or l.rows.items q d);
}
