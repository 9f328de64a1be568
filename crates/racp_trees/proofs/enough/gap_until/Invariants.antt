use Rattle.racp_trees.proofs.Looking.{IsLooking, weights}
use Rattle.racp_trees.proofs.enough.gap_until.Given as goal

abbrev pub invariant-loop-part : goal.invariant-loop-part
invariant-loop-part g l = IsLooking l.claim.net.now l.claim.order.now l.claim.roofs.now l.claim.capacities.now l.blocks l.parts.items

abbrev pub decreases-loop-part : goal.decreases-loop-part
decreases-loop-part g l = weights l.claim.net.now.resources l.claim.roofs.now l.parts.items
