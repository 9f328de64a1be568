use Rattle.std.proofs.Common.{◌≡◌, ◌≤◌, ◌++◌, drop, not, vec_len, ℕ}
use Rattle.racp_calendar.specs.Work.{has_work, is_worked, weeks_of}
use Rattle.racp_calendar.proofs.pattern.Pattern.idle_weeks.Given as goal

abbrev pub invariant-loop-day : goal.invariant-loop-day
invariant-loop-day l = (l.free.items ++ weeks_of (λ (week : ℕ). not (has_work (is_worked l.self.week l.self.free.items) 7 week)) l.next (drop l.day-index l.self.free.items) ≡ weeks_of (λ (week : ℕ). not (has_work (is_worked l.self.week l.self.free.items) 7 week)) 0 l.self.free.items) × (vec_len l.free ≤ l.day-index)
