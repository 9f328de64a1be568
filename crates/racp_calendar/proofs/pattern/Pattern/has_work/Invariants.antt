use Rattle.std.proofs.Common.{◌≡◌, ◌*◌, ◌+◌}
use Rattle.racp_calendar.specs.Work.{count_below, is_worked}
use Rattle.racp_calendar.proofs.pattern.Pattern.has_work.Given as goal

abbrev pub invariant-loop-day : goal.invariant-loop-day
invariant-loop-day l = count_below (is_worked l.self.week l.self.free.items) (l.week * 7 + l.day) ≡ count_below (is_worked l.self.week l.self.free.items) (l.week * 7)
