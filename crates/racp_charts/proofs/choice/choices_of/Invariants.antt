use Rattle.std.proofs.Common.{◌≡◌, ℕ, ◌<◌, length, slice_index_or}
use Rattle.racp_charts.specs.declared.choice.Choice.{Choice}
use Rattle.racp_charts.specs.Choices.{IsChoice}
use Rattle.racp_charts.proofs.choice.choices_of.Given as goal

abbrev pub invariant-loop-k : goal.invariant-loop-k
invariant-loop-k l = record {
  places : length l.choices.items ≡ l.k;
  each : (q : ℕ) (d : Choice) → q < l.k → IsChoice l.net l.order l.plan l.names q (slice_index_or l.choices.items q d);
}
