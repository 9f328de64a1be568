-- Axes of dates: weeks, months and years, and the free days between working days. Places are from the left and from above.
use Rattle.std.specs.Prelude.{ℕ, ◌+◌, ◌-◌, ◌/◌, ◌&&◌, Bool, min, nat_le, nat_lt, List, [], codes, if◌then◌else◌}
use Rattle.std.specs.Fmt.{decimal}
use Rattle.racp_calendar.specs.Periods.{begin_time, free_before, last_number, period_begin, period_of, period_text}
use Rattle.racp_calendar.specs.Times.{end_number, start_number}
use Rattle.racp_calendar.specs.declared.periods.Period.{Period}
use Rattle.racp_calendar.specs.declared.periods.Period.TheVariants.{Week, Month, Quarter, Years}
use Rattle.racp_calendar.specs.declared.workdays.Workdays.{Workdays}
use Rattle.racp_charts.specs.Axes.{across, mark_begin, mark_line}
use Rattle.racp_charts.specs.Texts.{◌⋅◌, mark_of, texts_before}
use Rattle.racp_charts.specs.declared.axis.Span.{Span}

-- an axis is one of dates if it has more than one time, and its last day has a date
abbrev pub has_bands : Workdays → Span → Bool
has_bands calendar span = nat_lt span.first span.last && nat_le (end_number calendar span.last) last_number

-- how many days the last day of an axis is after its first
abbrev pub days_in : Workdays → Span → ℕ
days_in calendar span = end_number calendar span.last - start_number calendar span.first

-- an axis of at most 150 days has weeks, and shows free days
abbrev pub has_weeks : ℕ → Bool
has_weeks days = nat_lt days 150

-- the months of an axis, its quarters if it has more than 366 days, its years if more than 1,098
abbrev pub long_period : ℕ → Period
long_period days =
    if nat_lt days 366 then Month
    else (if nat_lt days 1098 then Quarter else Years (mark_of (min days last_number / 365)))

-- where a day begins: at the first time that starts on it or later, or at the last time
abbrev pub day_across : Workdays → Span → ℕ → ℕ
day_across calendar span number =
    across span (if nat_le number (end_number calendar span.last) then begin_time calendar number else span.last)

-- the first day of the period at a place of a band, and where it begins
abbrev pub first_day_at : Workdays → Span → Period → ℕ → ℕ
first_day_at calendar span period place =
    period_begin period (period_of period (start_number calendar span.first) + place)

abbrev pub begin_at : Workdays → Span → Period → ℕ → ℕ
begin_at calendar span period place = day_across calendar span (first_day_at calendar span period place)

-- its line from `top` to `bottom`, unless the next begins there too
abbrev pub period_line : Workdays → Span → Period → ℕ → ℕ → ℕ → List ℕ
period_line calendar span period top bottom place =
    let left = begin_at calendar span period place in
    if nat_lt left (begin_at calendar span period (place + 1)) then mark_line left top bottom else []

-- how much room a name takes
abbrev pub name_room : Period → ℕ
name_room Week = 30
name_room Month = 52
name_room Quarter = 56
name_room (Years count) = 36

-- a name around a place
unfoldable pub name_element : Period → ℕ → ℕ → ℕ → List ℕ
name_element period first x y = mark_begin x y ⋅ period_text period first ⋅ codes "</text>\n"

-- its name in the middle, if it has room before the next begins and before the place `end`
unfoldable pub period_name : Workdays → Span → Period → ℕ → ℕ → ℕ → List ℕ
period_name calendar span period end y place =
    let left = begin_at calendar span period place in
    let right = min (begin_at calendar span period (place + 1)) end in
    if nat_le (left + name_room period) right
    then name_element period (first_day_at calendar span period place) ((left + right) / 2) y else []

-- both, the name at the lower end of the line
unfoldable pub period_mark : Workdays → Span → Period → ℕ → ℕ → ℕ → List ℕ
period_mark calendar span period top bottom place = period_line calendar span period top bottom place ⋅ period_name calendar span period 1000 bottom place

-- a band of periods with their lines, and one of names
abbrev pub band_marks : Workdays → Span → Period → ℕ → ℕ → List ℕ
band_marks calendar span period top bottom = texts_before (period_mark calendar span period top bottom) 26

abbrev pub band_names : Workdays → Span → Period → ℕ → ℕ → List ℕ
band_names calendar span period end y = texts_before (period_name calendar span period end y) 26

-- the line that stands for free days
unfoldable pub free_line : ℕ → ℕ → ℕ → ℕ → List ℕ
free_line width x top bottom = codes "<path class=\"line\" stroke-width=\"" ⋅ decimal width ⋅ codes "\" d=\"M" ⋅ decimal x
    ⋅ codes " " ⋅ decimal top ⋅ codes "V" ⋅ decimal bottom ⋅ codes "\"/>\n"

-- the free days before a time between the first and the last one: the more, the wider, up to 7
unfoldable pub free_mark : Workdays → Span → ℕ → ℕ → ℕ → List ℕ
free_mark calendar span top bottom place =
    let time = span.first + place + 1 in
    let days = free_before calendar time in
    if nat_lt time span.last && nat_lt 0 days then free_line (min days 6 + 1) (across span time) top bottom else []

unfoldable pub free_marks : Workdays → Span → ℕ → ℕ → List ℕ
free_marks calendar span top bottom = texts_before (free_mark calendar span top bottom) 150

-- the axis below a chart from `top` to `bottom`: months have their lines below the weeks
unfoldable pub week_axis : Workdays → Span → ℕ → ℕ → List ℕ
week_axis calendar span top bottom =
    free_marks calendar span top bottom ⋅ band_marks calendar span Week top (bottom + 11)
    ⋅ band_marks calendar span Month (bottom + 13) (bottom + 23)

abbrev pub date_axis : Workdays → Span → ℕ → ℕ → List ℕ
date_axis calendar span top bottom =
    if has_weeks (days_in calendar span) then week_axis calendar span top bottom
    else band_marks calendar span (long_period (days_in calendar span)) top (bottom + 15)

-- what stands at this height above a chart: months leave room for the deadline
unfoldable pub weeks_above : Workdays → Span → ℕ → List ℕ
weeks_above calendar span y =
    band_names calendar span Week 1000 y ⋅ band_names calendar span Month 850 (y - 16)

abbrev pub dates_above : Workdays → Span → ℕ → List ℕ
dates_above calendar span y =
    if has_weeks (days_in calendar span) then weeks_above calendar span y
    else band_names calendar span (long_period (days_in calendar span)) 1000 y
