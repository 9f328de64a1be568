use Rattle.std.proofs.Common.{◌≡◌}
use Rattle.racp_calendar.specs.Work.{count_below, is_weekly}
use Rattle.racp_calendar.proofs.building.has_day.Given as goal

abbrev pub invariant-loop-day : goal.invariant-loop-day
invariant-loop-day l = count_below (is_weekly l.week) l.day ≡ 0
