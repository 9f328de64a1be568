-- The day behind a day.
use Rattle.std.specs.Prelude.{ℕ, ◌==◌, Bool, List, [], Option, Some, None, length, not, unwrap_or, if◌then◌else◌}
use Rattle.std.specs.Result.{result_ok}
use Rattle.jiff.specs.Words.{parse_date}
use Rattle.jiff_fmt.specs.Temporal.{DateParts}
use Rattle.racp_calendar.specs.Dates.{Day, day_text, is_beyond, last_text, next_day}
use Rattle.racp_calendar.specs.declared.calendar.Calendar.{Calendar}

-- the day that a word names, as `2026-01-05` does, if it names one
unfoldable pub named_day : List ℕ → Option DateParts
named_day word = result_ok (parse_date word)

-- a day as a word, unless it is after the year 9999
abbrev pub word_of : Day → Option (List ℕ)
word_of day = if is_beyond day then None else Some (day_text day)

-- the day behind the one that a word names, if there is one
abbrev pub word_after_parts : DateParts → Option (List ℕ)
word_after_parts parts = word_of (next_day (record { year = parts.year; month = parts.month; day = parts.day }))

abbrev pub word_behind_day : Option DateParts → Option (List ℕ)
word_behind_day None = None
word_behind_day (Some parts) = word_after_parts parts

unfoldable pub word_behind : List ℕ → Option (List ℕ)
word_behind word = word_behind_day (named_day word)

-- the same; nothing if there is none
abbrev pub day_behind : List ℕ → List ℕ
day_behind word = unwrap_or (word_behind word) []

-- a calendar has a date for the last day of what ends at a time, and for the day behind it
abbrev pub is_told : Calendar → ℕ → Bool
is_told calendar end = not (length (day_behind (last_text calendar end)) == 0)
