use Rattle.std.proofs.Common.{◌≡◌, ◌+◌, ◌-◌}
use Rattle.racp_calendar.specs.Dates.{work_of}
use Rattle.racp_calendar.specs.Work.{first_from}
use Rattle.racp_calendar.proofs.workdays.Workdays.first_in.Given as goal

abbrev pub invariant-loop-step : goal.invariant-loop-step
invariant-loop-step l = first_from (work_of l.self) (l.span - l.step) (l.begin + l.step) ≡ first_from (work_of l.self) l.span l.begin
