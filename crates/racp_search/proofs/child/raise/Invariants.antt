use Rattle.std.proofs.Common.{take}
use Rattle.racp_search.proofs.Raising.{IsRaising}
use Rattle.racp_search.proofs.child.raise.Given as goal

abbrev pub invariant-loop-job : goal.invariant-loop-job
invariant-loop-job l = IsRaising l.fn.times (take l.job-index l.gone) l.end l.times
