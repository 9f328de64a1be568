-- A plan as a calendar of events, in the format iCalendar.
use Rattle.std.specs.Prelude.{ℕ, ◌+◌, ◌==◌, ◌++◌, List, [], chars, codes, encode_utf8, flat_map, fold, length, nat_lt, if◌then◌else◌}
use Rattle.std.specs.Fmt.{decimal}
use Rattle.racp_calendar.specs.Dates.{first_text, last_text}
use Rattle.racp_calendar.specs.declared.calendar.Calendar.{Calendar}
use Rattle.racp_charts.specs.Texts.{◌⋅◌}
use Rattle.racp_model.specs.Project.{Project, place}
use Rattle.racp_show.specs.declared.row.Row.{Row}
use Rattle.racp_show.specs.declared.row.Row.TheVariants.{Heading, Bar}
use Rattle.racp_show.specs.declared.task.Task.{Task}
use Rattle.racp_export.specs.Days.{day_behind}
use Rattle.racp_export.specs.Letters.{spelled}
use Rattle.racp_export.specs.Words.{needs_text, task_title}
use Rattle.racp_export.specs.declared.letters.Letters.TheVariants.{Events, Digits}

-- lines so far, and how many octets the last of them has
pub record Folding : Type 0 where
  pub text : List ℕ
  pub octets : ℕ

abbrev pub folding : List ℕ → ℕ → Folding
folding text octets = record { text = text; octets = octets }

-- with one more letter: a line has at most 75 octets, and one that goes on another begins with a blank
abbrev pub with_letter : Folding → ℕ → Folding
with_letter lines letter =
    if nat_lt 75 (lines.octets + length (encode_utf8 letter))
    then folding (lines.text ++ codes "\r\n " ++ encode_utf8 letter) (1 + length (encode_utf8 letter))
    else folding (lines.text ++ encode_utf8 letter) (lines.octets + length (encode_utf8 letter))

-- a text, cut into such lines
unfoldable pub folded : List ℕ → List ℕ
folded text = (fold with_letter (folding [] 0) (chars text)).text

-- a content line
unfoldable pub content_line : List ℕ → List ℕ
content_line text = folded text ⋅ codes "\r\n"

-- a date as iCalendar writes it, as `20260302`
abbrev pub digits : List ℕ → List ℕ
digits date = spelled Digits date

-- the first day of the calendar that is worked on
abbrev pub stamp_of : Calendar → List ℕ
stamp_of calendar = digits (first_text calendar 0 1)

-- by what an event is known again
unfoldable pub uid_text : List ℕ → Task → List ℕ
uid_text stamp task =
    codes "UID:" ⋅ decimal task.job ⋅ codes "." ⋅ stamp ⋅ codes "." ⋅ spelled Events (task_title task) ⋅ codes "@racp"

-- the days of an event, from its first day to before the day behind its last
unfoldable pub days_lines : List ℕ → List ℕ → List ℕ → List ℕ
days_lines stamp first behind =
    codes "DTSTAMP:" ⋅ stamp ⋅ codes "T000000Z\r\nDTSTART;VALUE=DATE:" ⋅ first ⋅ codes "\r\nDTEND;VALUE=DATE:" ⋅ behind
    ⋅ codes "\r\n"

abbrev pub days_text : Calendar → List ℕ → Task → List ℕ
days_text calendar stamp task =
    days_lines stamp (digits (first_text calendar task.start task.duration))
    (digits (day_behind (last_text calendar (task.start + task.duration))))

-- what an event is called
unfoldable pub summary_text : Task → List ℕ
summary_text task = codes "SUMMARY:" ⋅ spelled Events (task_title task)

-- what its task needs, if it needs something
unfoldable pub description_text : List ℕ → List ℕ
description_text needs = codes "DESCRIPTION:" ⋅ needs

abbrev pub description_lines : List ℕ → List ℕ
description_lines needs = if length needs == 0 then [] else content_line (description_text needs)

-- the event of a task
unfoldable pub event_text : Calendar → Project → List (List ℕ) → Task → List ℕ
event_text calendar p names task =
    codes "BEGIN:VEVENT\r\n" ⋅ content_line (uid_text (stamp_of calendar) task) ⋅ days_text calendar (stamp_of calendar) task
    ⋅ content_line (summary_text task) ⋅ description_lines (spelled Events (needs_text p names (place task.job)))
    ⋅ codes "TRANSP:TRANSPARENT\r\nEND:VEVENT\r\n"

-- of a row: a phase has no event
abbrev pub row_event : Calendar → Project → List (List ℕ) → Row → List ℕ
row_event calendar p names (Heading depth title) = []
row_event calendar p names (Bar depth task) = event_text calendar p names task

-- the calendar of events, an event for each task
unfoldable pub events_text : Calendar → Project → List (List ℕ) → List Row → List ℕ
events_text calendar p names rows =
    codes "BEGIN:VCALENDAR\r\nVERSION:2.0\r\nPRODID:-//racp//racp//EN\r\nCALSCALE:GREGORIAN\r\n"
    ⋅ flat_map (row_event calendar p names) rows ⋅ codes "END:VCALENDAR\r\n"
