use Rattle.std.proofs.Common.{ℕ, ◌≤◌}
use Rattle.racp_timetable.specs.Narrowing.{IsNarrowed}
use Rattle.racp_timetable.proofs.core_times.narrow_at.Given as goal

abbrev pub invariant-loop-i : goal.invariant-loop-i
invariant-loop-i l = (from : ℕ) → from ≤ l.time → IsNarrowed l.net l.capacities from l.fn.window l.window
