-- Weeks, months and years, and when they begin on a calendar. Days have the numbers that they have among all dates.
use Rattle.std.specs.Prelude.{ℕ, ◌+◌, ◌-◌, ◌*◌, ◌/◌, ◌%◌, ◌++◌, ◌∷◌, [], true, pos, negsuc, List, max, min, nat_le, codes, unsigned_abs}
use Rattle.std.specs.Fmt.{decimal}
use Rattle.jiff_core.specs.Calendar.{day_count, day_of_year}
use Rattle.racp_calendar.specs.Dates.{Day, days_after, end_of, most_days, start_of}
use Rattle.racp_calendar.specs.Times.{start_number}
use Rattle.racp_calendar.specs.Work.{first_from}
use Rattle.racp_calendar.specs.Written.{four_digits, two_digits}
use Rattle.racp_calendar.specs.declared.periods.Period.{Period}
use Rattle.racp_calendar.specs.declared.periods.Period.TheVariants.{Week, Month, Quarter, Years}
use Rattle.racp_calendar.specs.declared.workdays.Workdays.{Workdays}

-- the number of the last date, 9999-12-31
abbrev pub last_number : ℕ
last_number = 7_304_849

-- the day with a number, or the last date: the number of the first date, -9999-01-01, is 366
abbrev pub day_numbered : ℕ → Day
day_numbered number = days_after (min number last_number - 366) (record { year = negsuc 9998; month = 1; day = 1 })

-- how many months of all years from the year 0 on lie before that of a day
abbrev pub month_number : Day → ℕ
month_number d = unsigned_abs d.year * 12 + (d.month - 1)

-- the number of the period in which a day is: each day with a number that is 2 more than a multiple of 7 is a Monday
abbrev pub period_of : Period → ℕ → ℕ
period_of Week number = (min number last_number - 2) / 7
period_of Month number = month_number (day_numbered number)
period_of Quarter number = month_number (day_numbered number) / 3
period_of (Years count) number = month_number (day_numbered number) / (max count 1 * 12)

-- the first day of a month; the day behind the last date if it is later
abbrev pub month_begin : ℕ → ℕ
month_begin month = min (day_count (pos (month / 12)) (month % 12 + 1) 1) (last_number + 1)

-- the first day of the period with a number
abbrev pub period_begin : Period → ℕ → ℕ
period_begin Week number = number * 7 + 2
period_begin Month number = month_begin number
period_begin Quarter number = month_begin (number * 3)
period_begin (Years count) number = month_begin (number * (max count 1 * 12))

-- the first time that starts on a day or later
unfoldable pub begin_time : Workdays → ℕ → ℕ
begin_time calendar number =
    first_from (λ time. nat_le (min number last_number) (start_number calendar time)) most_days 0

-- how many free days lie between what ends and what starts at a time
abbrev pub free_before : Workdays → ℕ → ℕ
free_before calendar time = start_of calendar time - end_of calendar time - 1

-- which week of its year a week is that begins on a Monday: its year is that of its Thursday
abbrev pub week_in_year : Day → ℕ
week_in_year thursday = (day_of_year thursday.year thursday.month thursday.day - 1) / 7 + 1

-- `W10`, `2026-03`, `2026-Q1` and `2026`
unfoldable pub week_text : ℕ → List ℕ
week_text week = codes "W" ++ two_digits true week

unfoldable pub month_text : Day → List ℕ
month_text d = four_digits (unsigned_abs d.year) ++ codes "-" ++ two_digits true d.month

unfoldable pub quarter_text : Day → List ℕ
quarter_text d = four_digits (unsigned_abs d.year) ++ codes "-Q" ++ decimal ((d.month - 1) / 3 + 1)

abbrev pub year_text : Day → List ℕ
year_text d = four_digits (unsigned_abs d.year)

-- what a period is called, by its first day
abbrev pub period_text : Period → ℕ → List ℕ
period_text Week first = week_text (week_in_year (day_numbered (first + 3)))
period_text Month first = month_text (day_numbered first)
period_text Quarter first = quarter_text (day_numbered first)
period_text (Years count) first = year_text (day_numbered first)
