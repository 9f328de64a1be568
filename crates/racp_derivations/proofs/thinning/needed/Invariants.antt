use Rattle.std.proofs.Common.{◌≤◌, length, drop}
use Rattle.racp_derivations.specs.Thinning.{InfersAs}
use Rattle.racp_derivations.proofs.thinning.needed.Given as goal

abbrev pub invariant-loop-left : goal.invariant-loop-left
invariant-loop-left l = (l.left ≤ length l.literals) × InfersAs l.kept.items (drop l.left l.literals)

abbrev pub decreases-loop-left : goal.decreases-loop-left
decreases-loop-left l = l.left
