use Rattle.racp_check.proofs.Excess.{IsFirstSoFar}
use Rattle.racp_check.proofs.check.first_over.Given as goal

abbrev pub invariant-loop-time : goal.invariant-loop-time
invariant-loop-time l = IsFirstSoFar l.net l.capacities l.starts l.time-index l.first
