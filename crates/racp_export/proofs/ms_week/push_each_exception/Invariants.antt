use Rattle.std.proofs.Common.{◌≡◌, ◌++◌, flat_map, string_bytes, drop}
use Rattle.racp_calendar.specs.Told.{free_days}
use Rattle.racp_export.specs.MsProject.{exception_line}
use Rattle.racp_export.proofs.ms_week.push_each_exception.Given as goal

abbrev pub invariant-loop-day : goal.invariant-loop-day
invariant-loop-day l = string_bytes l.text ++ flat_map (exception_line l.calendar) (drop l.day-index (free_days l.calendar)) ≡ string_bytes l.initial.text ++ flat_map (exception_line l.calendar) (free_days l.calendar)
