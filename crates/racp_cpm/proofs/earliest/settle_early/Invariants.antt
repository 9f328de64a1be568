use Rattle.racp_cpm.proofs.Raising.{IsRaised}
use Rattle.racp_cpm.proofs.earliest.settle_early.Given as goal

abbrev pub invariant-loop-i : goal.invariant-loop-i
invariant-loop-i l = IsRaised l.net l.i-items l.fn.starts l.i-index l.starts
