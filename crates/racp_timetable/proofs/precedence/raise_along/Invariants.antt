use Rattle.std.proofs.Common.{ℕ, List}
use Rattle.racp_timetable.specs.Narrowing.{IsNarrowed}
use Rattle.racp_timetable.proofs.precedence.raise_along.Given as goal

abbrev pub invariant-loop-i : goal.invariant-loop-i
invariant-loop-i l = (capacities : List ℕ) (from : ℕ) → IsNarrowed l.net capacities from l.fn.window l.window
