use Rattle.std.proofs.Common.{All}
use Rattle.racp_show.specs.Labels.{IsWithinColumns}
use Rattle.racp_show.proofs.label.labels.Given as goal

abbrev pub invariant-loop-entry : goal.invariant-loop-entry
invariant-loop-entry l = All (IsWithinColumns l.most) l.labels.items

abbrev pub invariant-loop-k : goal.invariant-loop-k
invariant-loop-k l = All (IsWithinColumns l.most) l.labels.items
