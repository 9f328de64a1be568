use Rattle.std.proofs.Common.{length}
use Rattle.racp_trees.proofs.Advancing.{IsReadingTree}
use Rattle.racp_trees.proofs.reader.Reader.read_tree.Given as goal

abbrev pub invariant-loop-step : goal.invariant-loop-step
invariant-loop-step g l = IsReadingTree l.ground.net.now l.ground.capacities.now l.ground.root.now l.fn.self l.fn.text l.self l.lower.items l.rest

abbrev pub decreases-loop-step : goal.decreases-loop-step
decreases-loop-step g l = length l.rest
