use Rattle.std.proofs.Common.{◌-◌, length}
use Rattle.racp_trees.proofs.Making.{IsMaking}
use Rattle.racp_trees.proofs.maker.Maker.make_tree.Given as goal

abbrev pub invariant-loop-alloc : goal.invariant-loop-alloc
invariant-loop-alloc g l = IsMaking l.ground.net.now l.ground.capacities.now l.ground.root.now l.initial.self.reader l.fn.text.items l.self.reader l.lower.items l.text.items

abbrev pub decreases-loop-alloc : goal.decreases-loop-alloc
decreases-loop-alloc g l = 16777216 - length l.text.items
