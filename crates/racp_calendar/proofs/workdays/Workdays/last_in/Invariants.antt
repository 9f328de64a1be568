use Rattle.std.proofs.Common.{◌≡◌, ◌-◌}
use Rattle.racp_calendar.specs.Dates.{work_of}
use Rattle.racp_calendar.specs.Work.{last_before}
use Rattle.racp_calendar.proofs.workdays.Workdays.last_in.Given as goal

abbrev pub invariant-loop-step : goal.invariant-loop-step
invariant-loop-step l = last_before (work_of l.self) (l.span - l.step) (l.end - l.step) ≡ last_before (work_of l.self) l.span l.end
