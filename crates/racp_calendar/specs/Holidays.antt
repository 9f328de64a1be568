-- Weeks of working days, and days that are free.
use Rattle.std.specs.Prelude.{ℕ, ◌+◌, ◌%◌, ◌&&◌, Bool, false, List, [], ◌∷◌, nat_le, slice_index_or}
use Rattle.jiff_core.specs.Calendar.{day_count}
use Rattle.jiff_core.specs.declared.civil.date.Date.{Date}
use Rattle.racp_calendar.specs.declared.holiday.Holiday.{Holiday}

-- the number of a date among all dates, one after the other
abbrev pub day_number : Date → ℕ
day_number date = day_count date.year date.month date.day

-- a day, counted from the first day, is one of a holiday's
abbrev pub is_off : Date → Holiday → ℕ → Bool
is_off first holiday day =
    nat_le (day_number holiday.first) (day_number first + day) && nat_le (day_number first + day) (day_number holiday.last)

-- the seven days of a week that begins so many days after Monday, of one that begins on Monday
abbrev pub week_from : List Bool → ℕ → List Bool
week_from worked begin =
    slice_index_or worked (begin % 7) false ∷ slice_index_or worked ((begin + 1) % 7) false
    ∷ slice_index_or worked ((begin + 2) % 7) false ∷ slice_index_or worked ((begin + 3) % 7) false
    ∷ slice_index_or worked ((begin + 4) % 7) false ∷ slice_index_or worked ((begin + 5) % 7) false
    ∷ slice_index_or worked ((begin + 6) % 7) false ∷ []
