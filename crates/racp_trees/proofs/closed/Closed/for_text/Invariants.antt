use Rattle.racp_trees.proofs.Naming.{IsScanning}
use Rattle.racp_trees.proofs.closed.Closed.for_text.Given as goal

abbrev pub invariant-loop-at : goal.invariant-loop-at
invariant-loop-at l = IsScanning l.text l.at l.records
