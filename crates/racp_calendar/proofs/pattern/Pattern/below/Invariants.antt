use Rattle.std.proofs.Common.{◌≡◌, ◌+◌, ◌≤◌, ℕ, true, drop}
use Rattle.racp_calendar.specs.Work.{are_rising, count_below, is_worked}
use Rattle.racp_calendar.proofs.Frees.{fewer}
use Rattle.racp_calendar.proofs.pattern.Pattern.below.Given as goal

abbrev pub invariant-loop-free : goal.invariant-loop-free
invariant-loop-free l = (l.count ≡ count_below (is_worked l.self.week l.self.free.items) l.day + fewer (drop l.free-index l.self.free.items) l.day) × (l.count ≤ l.day) × ((from : ℕ) × (are_rising l.self.week from (drop l.free-index l.self.free.items) ≡ true))
