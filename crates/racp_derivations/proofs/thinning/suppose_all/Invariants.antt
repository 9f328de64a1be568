use Rattle.std.proofs.Common.{◌≡◌, ◌++◌, take}
use Rattle.racp_derivations.proofs.thinning.suppose_all.Given as goal

abbrev pub invariant-loop-literal : goal.invariant-loop-literal
invariant-loop-literal g l = l.work.clause ≡ l.fn.work.clause ++ take l.literal-index l.literals
