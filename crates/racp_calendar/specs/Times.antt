-- The times of dates.
use Rattle.std.specs.Prelude.{ℕ, ◌+◌, ◌<◌, ◌≤◌, Bool}
use Rattle.jiff_core.specs.declared.civil.date.Date.{Date}
use Rattle.racp_calendar.specs.Dates.{end_of, start_of}
use Rattle.racp_calendar.specs.Holidays.{day_number}
use Rattle.racp_calendar.specs.Work.{end_day, start_day}
use Rattle.racp_calendar.specs.declared.workdays.Workdays.{Workdays}

-- of days that are counted from the first: the greatest time that ends by a day, and the least that starts on it or later
pub record IsBy (works : ℕ → Bool) (span most day time : ℕ) : Type 0 where
  pub keeps : end_day works span most time ≤ day
  pub greatest : (later : ℕ) → time < later → day < end_day works span most later

pub record IsFrom (works : ℕ → Bool) (span most day time : ℕ) : Type 0 where
  pub keeps : day ≤ start_day works span most time
  pub least : (sooner : ℕ) → sooner < time → start_day works span most sooner < day

-- the number among all dates of the last day of what ends at a time, and of the first day of what starts at one
abbrev pub end_number : Workdays → ℕ → ℕ
end_number calendar time = day_number calendar.first + end_of calendar time

abbrev pub start_number : Workdays → ℕ → ℕ
start_number calendar time = day_number calendar.first + start_of calendar time

-- a time is the greatest of which the last day is not after a date
pub record IsTimeBy (calendar : Workdays) (date : Date) (time : ℕ) : Type 0 where
  pub keeps : end_number calendar time ≤ day_number date
  pub greatest : (later : ℕ) → time < later → day_number date < end_number calendar later

-- a time is the least of which the first day is not before a date
pub record IsTimeFrom (calendar : Workdays) (date : Date) (time : ℕ) : Type 0 where
  pub keeps : day_number date ≤ start_number calendar time
  pub least : (sooner : ℕ) → sooner < time → start_number calendar sooner < day_number date
