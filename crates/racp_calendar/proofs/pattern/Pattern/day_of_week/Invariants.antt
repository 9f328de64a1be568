use Rattle.std.proofs.Common.{◌≤◌}
use Rattle.racp_calendar.specs.Work.{count_below, is_weekly}
use Rattle.racp_calendar.proofs.pattern.Pattern.day_of_week.Given as goal

abbrev pub invariant-loop-day : goal.invariant-loop-day
invariant-loop-day l = count_below (is_weekly l.self.week) l.day ≤ l.place
