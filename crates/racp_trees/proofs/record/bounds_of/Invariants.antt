use Rattle.racp_trees.specs.Records.{AreBounds}
use Rattle.racp_trees.proofs.record.bounds_of.Given as goal

abbrev pub invariant-loop-i : goal.invariant-loop-i
invariant-loop-i l = AreBounds l.net l.lower l.early l.time l.i l.bounds.items
