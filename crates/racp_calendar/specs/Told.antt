-- What other programs are told of a calendar: its week, its free days, and how much work lies between times.
use Rattle.std.specs.Prelude.{ℕ, ◌+◌, ◌-◌, Bool, true, List, [], nat_lt, unwrap_or, if◌then◌else◌}
use Rattle.std.specs.Fmt.{decimal}
use Rattle.jiff_core.specs.Date.{weekday_of}
use Rattle.racp_calendar.specs.Dates.{end_of, start_of, word_after, work_of}
use Rattle.racp_calendar.specs.Work.{count_below, is_weekly}
use Rattle.racp_calendar.specs.declared.calendar.Calendar.{Calendar}
use Rattle.racp_calendar.specs.declared.calendar.Calendar.TheVariants.{Numbers, Dates}
use Rattle.racp_calendar.specs.declared.workdays.Workdays.{Workdays}

-- a day of the week, from 0 for Monday, is worked on but for holidays; by numbers each day is
abbrev pub is_workday : Calendar → ℕ → Bool
is_workday Numbers day = true
is_workday (Dates calendar) day = is_weekly calendar.now.days.week (day + 7 - weekday_of calendar.now.first)

-- the days, counted from the first day, that are free though their day of the week is worked on
abbrev pub free_days : Calendar → List ℕ
free_days Numbers = []
free_days (Dates calendar) = calendar.now.days.free.items

-- the day so many days after the first day, or that number
unfoldable pub counted_text : Calendar → ℕ → List ℕ
counted_text Numbers days = decimal days
counted_text (Dates calendar) days = unwrap_or (word_after calendar.now.first days) (decimal days)

-- how many days are worked on from the first day of what starts at a time to the last day of what ends at a later one: those
-- before the last day and that, less those before the first
abbrev pub days_worked : Workdays → ℕ → ℕ → ℕ
days_worked calendar start end =
    count_below (work_of calendar) (end_of calendar end) + 1 - count_below (work_of calendar) (start_of calendar start)

abbrev pub work_between : Calendar → ℕ → ℕ → ℕ
work_between Numbers start end = end - start
work_between (Dates calendar) start end = if nat_lt start end then days_worked calendar.now start end else 0
