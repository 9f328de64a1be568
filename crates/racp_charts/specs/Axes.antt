-- Places on a drawing, and axes of numbers. Places are from the left and from above; a drawing is 1,000 wide.
use Rattle.std.specs.Prelude.{ℕ, ◌+◌, ◌-◌, ◌*◌, ◌/◌, ◌==◌, min, nat_le, List, [], codes, if◌then◌else◌}
use Rattle.std.specs.Fmt.{decimal}
use Rattle.std.specs.Int.{div_ceil}
use Rattle.racp_calendar.specs.Dates.{first_text, last_text}
use Rattle.racp_calendar.specs.declared.calendar.Calendar.{Calendar}
use Rattle.racp_calendar.specs.declared.calendar.Calendar.TheVariants.{Numbers, Dates}
use Rattle.racp_charts.specs.Texts.{◌⋅◌, mark_of, texts_before}
use Rattle.racp_charts.specs.declared.axis.Span.{Span}

-- where a time is drawn: the first at 270 and the last at 970, and times before and after them there too
abbrev pub across : Span → ℕ → ℕ
across span time = if (span.last - span.first) == 0 then 270
    else 270 + min (time - span.first) (span.last - span.first) * 700 / (span.last - span.first)

-- how much later each number of an axis is than the one before; dates, which are wider, have twice the room
abbrev pub mark_in : Calendar → ℕ → ℕ
mark_in Numbers times = mark_of times
mark_in (Dates calendar) times = mark_of (times * 2)

abbrev pub axis_mark : Span → ℕ
axis_mark span = mark_in span.calendar (span.last - span.first)

-- the time of the number at a place of an axis
abbrev pub axis_time : Span → ℕ → ℕ
axis_time span place = (div_ceil span.first (axis_mark span) + place) * axis_mark span

-- a line from `top` to `bottom`
unfoldable pub mark_line : ℕ → ℕ → ℕ → List ℕ
mark_line x top bottom = codes "<path class=\"line\" d=\"M" ⋅ decimal x ⋅ codes " " ⋅ decimal top ⋅ codes "V"
    ⋅ decimal bottom ⋅ codes "\"/>"

-- the beginning of a number at a place
unfoldable pub mark_begin : ℕ → ℕ → List ℕ
mark_begin x y = codes "<text class=\"mark\" x=\"" ⋅ decimal x ⋅ codes "\" y=\"" ⋅ decimal y ⋅ codes "\">"

-- a time as an axis tells it: by the first day of what starts then, or by the last day of what ends
abbrev pub told_time : Span → ℕ → List ℕ
told_time span time = if span.of_ends then last_text span.calendar time else first_text span.calendar time 1

-- a time at its place
unfoldable pub mark_number : Span → ℕ → ℕ → List ℕ
mark_number span time y = mark_begin (across span time) y ⋅ told_time span time ⋅ codes "</text>\n"

-- the line of a time from `top` to `bottom`, and the time below
unfoldable pub mark_element : Span → ℕ → ℕ → ℕ → List ℕ
mark_element span time top bottom = mark_line (across span time) top bottom ⋅ mark_number span time (bottom + 15)

-- a number of the axis below, and its line, if it is no later than the last time
abbrev pub time_below : Span → ℕ → ℕ → ℕ → List ℕ
time_below span top bottom place =
    let time = axis_time span place in
    if nat_le time span.last then mark_element span time top bottom else []

-- these from `top` to `bottom`
abbrev pub number_axis : Span → ℕ → ℕ → List ℕ
number_axis span top bottom = texts_before (time_below span top bottom) 13

-- a number of the axis above
abbrev pub time_above : Span → ℕ → ℕ → List ℕ
time_above span y place =
    let time = axis_time span place in
    if nat_le time span.last then mark_number span time y else []

-- the numbers of the axis above a chart
abbrev pub numbers_above : Span → ℕ → List ℕ
numbers_above span y = texts_before (time_above span y) 13
