use Rattle.std.proofs.Common.{ℕ, List}
use Rattle.racp_timetable.specs.Narrowing.{IsNarrowed}
use Rattle.racp_timetable.proofs.precedence.reduce_along.Given as goal

abbrev pub invariant-loop-k : goal.invariant-loop-k
invariant-loop-k l = (capacities : List ℕ) (from : ℕ) → IsNarrowed l.net capacities from l.fn.window l.window
