use Rattle.std.proofs.Common.{◌≡◌, ◌-◌, length}
use Rattle.racp_trees.proofs.certifying.raise.Given as goal

abbrev pub invariant-loop-low : goal.invariant-loop-low
invariant-loop-low l = length l.vector ≡ length l.fn.vector

abbrev pub decreases-loop-low : goal.decreases-loop-low
decreases-loop-low l = l.high - l.low
