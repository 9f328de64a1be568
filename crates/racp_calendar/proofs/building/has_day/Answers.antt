use Rattle.std.proofs.Common.{◌∙◌, sym}
use Rattle.racp_calendar.proofs.Weeks.{some_day}
use Rattle.racp_calendar.proofs.building.has_day.Goals as goal

pub returns-then-is_weekly : goal.returns-then-is_weekly
returns-then-is_weekly c = some_day c.args.week.now c.loop-day.day c.loop-day-test.true (sym c.is_weekly.ensures ∙ c.if-is_weekly.true)
