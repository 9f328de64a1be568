use Rattle.racp_trees.proofs.Changing.{AreChanges}
use Rattle.racp_trees.proofs.shared_row.changes_of.Given as goal

abbrev pub invariant-loop-i : goal.invariant-loop-i
invariant-loop-i l = AreChanges l.from l.to l.i l.changes.items
