use Rattle.std.proofs.Common.{length}
use Rattle.racp_trees.proofs.Closing.{IsPassing}
use Rattle.racp_trees.proofs.reader.Reader.next_window.Given as goal

abbrev pub invariant-loop-branch : goal.invariant-loop-branch
invariant-loop-branch g l = IsPassing l.ground.net.now l.ground.capacities.now l.ground.root.now l.fn.self l.self

abbrev pub decreases-loop-branch : goal.decreases-loop-branch
decreases-loop-branch g l = length l.self.branches.items
