use Rattle.racp_trees.specs.Records.{AreWaits}
use Rattle.racp_trees.proofs.record.waits_of.Given as goal

abbrev pub invariant-loop-i : goal.invariant-loop-i
invariant-loop-i l = AreWaits l.bounds l.time l.i l.waits.items
