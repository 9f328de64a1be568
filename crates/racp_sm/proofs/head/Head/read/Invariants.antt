use Rattle.std.proofs.Common.{length}
use Rattle.racp_sm.proofs.Noting.{IsNoting}
use Rattle.racp_sm.proofs.head.Head.read.Given as goal

abbrev pub invariant-loop-line : goal.invariant-loop-line
invariant-loop-line l = IsNoting l.fn.lines l.lines l.head

abbrev pub decreases-loop-line : goal.decreases-loop-line
decreases-loop-line l = length l.lines
