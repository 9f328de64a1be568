-- The drawings of a plan. Places are from the left and from above; a drawing is 1,000 wide.
use Rattle.std.specs.Prelude.{ℕ, ◌+◌, ◌-◌, ◌*◌, ◌/◌, ◌%◌, ◌==◌, ◌&&◌, max, min, List, [], ◌∷◌, codes, flat_map, option_map, if◌then◌else◌}
use Rattle.std.specs.Fmt.{decimal}
use Rattle.racp_show.specs.declared.usage.Step.{Step}
use Rattle.racp_calendar.specs.Dates.{first_text, has_dates, last_text}
use Rattle.racp_calendar.specs.declared.calendar.Calendar.{Calendar}
use Rattle.racp_calendar.specs.declared.calendar.Calendar.TheVariants.{Numbers, Dates}
use Rattle.racp_charts.specs.Axes.{across, number_axis, numbers_above}
use Rattle.racp_charts.specs.Bands.{date_axis, dates_above, has_bands}
use Rattle.racp_charts.specs.Texts.{◌⋅◌, escaped}
use Rattle.racp_charts.specs.declared.axis.Span.{Span}
use Rattle.racp_charts.specs.declared.choice.Choice.{Choice}
use Rattle.racp_show.specs.declared.predecessor.Predecessor.{Predecessor}
use Rattle.racp_show.specs.declared.row.Row.{Row}
use Rattle.racp_show.specs.declared.row.Row.TheVariants.{Heading, Bar}
use Rattle.racp_show.specs.declared.task.Task.{Task}
use Rattle.racp_charts.specs.Elements.{name_text, predecessor_list, shape_class, short_text, text_within}

-- the axis of times below a chart from `top` to `bottom`: of dates, if there are some up to the last time and it is not the only one
abbrev pub axis_by : Calendar → Span → ℕ → ℕ → List ℕ
axis_by Numbers span top bottom = number_axis span top bottom
axis_by (Dates calendar) span top bottom =
    if has_bands calendar.now span then date_axis calendar.now span top bottom else number_axis span top bottom

abbrev pub axis : Span → ℕ → ℕ → List ℕ
axis span top bottom = axis_by span.calendar span top bottom

-- what stands at this height above a chart
abbrev pub above_by : Calendar → Span → ℕ → List ℕ
above_by Numbers span y = numbers_above span y
above_by (Dates calendar) span y =
    if has_bands calendar.now span then dates_above calendar.now span y else numbers_above span y

abbrev pub axis_above : Span → ℕ → List ℕ
axis_above span y = above_by span.calendar span y

-- the line of the deadline
unfoldable pub deadline_line : ℕ → ℕ → List ℕ
deadline_line top bottom = codes "<path class=\"deadline\" d=\"M970 " ⋅ decimal top ⋅ codes "V" ⋅ decimal bottom
    ⋅ codes "\"/>\n"

-- the deadline above it
unfoldable pub deadline_label : Span → List ℕ
deadline_label span = codes "<text class=\"end\" x=\"990\" y=\"18\">deadline " ⋅ last_text span.calendar span.last
    ⋅ codes "</text>\n"

-- the greatest number of a chart at the height `top`, and 0 at `bottom`
unfoldable pub scale_element : ℕ → ℕ → ℕ → List ℕ
scale_element most top bottom = codes "<text class=\"end\" x=\"264\" y=\"" ⋅ decimal top ⋅ codes "\">" ⋅ decimal most
    ⋅ codes "</text><text class=\"end\" x=\"264\" y=\"" ⋅ decimal bottom ⋅ codes "\">0</text>\n"

-- where a stair begins, and a step of it
unfoldable pub place_text : ℕ → ℕ → List ℕ
place_text x y = codes "M" ⋅ decimal x ⋅ codes " " ⋅ decimal y

unfoldable pub step_text : ℕ → ℕ → List ℕ
step_text x y = codes "H" ⋅ decimal x ⋅ codes "V" ⋅ decimal y

-- the number of a task in a tooltip, and its slack
unfoldable pub tip_begin : ℕ → List ℕ
tip_begin job = codes "\ntask " ⋅ decimal job ⋅ codes ", "

unfoldable pub tip_slack : ℕ → List ℕ
tip_slack slack = codes ", slack " ⋅ decimal slack

-- from when to when something runs: its first and its last day are days of work on it
unfoldable pub run_text : Calendar → ℕ → ℕ → List ℕ
run_text calendar start duration =
    codes "from " ⋅ first_text calendar start duration ⋅ codes " to " ⋅ last_text calendar (start + duration)

-- the evening of a day on which something is done
unfoldable pub evening_text : Calendar → ℕ → List ℕ
evening_text calendar end = codes "by the evening of " ⋅ last_text calendar end

-- when something runs; by dates, what takes no time is done in an evening
abbrev pub times_text : Calendar → ℕ → ℕ → List ℕ
times_text calendar start duration =
    if duration == 0 && has_dates calendar then evening_text calendar start else run_text calendar start duration

-- the times of a tooltip
unfoldable pub tip_times : Calendar → Task → List ℕ
tip_times calendar task =
    tip_begin task.job ⋅ times_text calendar task.start task.duration ⋅ tip_slack (task.latest - task.start)

-- what a task waits for, if for anything
abbrev pub tip_before : List Predecessor → List ℕ
tip_before [] = []
tip_before (predecessor ∷ predecessors) = codes ", after " ⋅ predecessor_list 0 (predecessor ∷ predecessors)

-- the tooltip of a task
unfoldable pub tip_element : Calendar → Task → List ℕ
tip_element calendar task =
    codes "<g><title>" ⋅ name_text (option_map (λ name. name.now) task.name) (codes "task") task.job
    ⋅ tip_times calendar task
    ⋅ tip_before task.predecessors.items ⋅ codes "</title>"

-- where the name in a row begins that stands in so many phases, and how many columns it takes at most
abbrev pub name_left : ℕ → ℕ
name_left depth = 8 + min depth 8 * 12

abbrev pub name_columns : ℕ → ℕ
name_columns depth = 40 - min depth 8 * 2

-- the stripe of a row, and the beginning of the name in it, or of the title of a phase
unfoldable pub row_middle : ℕ → ℕ → List ℕ
row_middle left top = codes "<rect class=\"stripe" ⋅ decimal (top / 20 % 2) ⋅ codes "\" x=\"0\" y=\"" ⋅ decimal top
    ⋅ codes "\" width=\"1000\" height=\"20\"/><text x=\"" ⋅ decimal left ⋅ codes "\" y=\"" ⋅ decimal (top + 14) ⋅ codes "\">"

unfoldable pub phase_middle : ℕ → ℕ → List ℕ
phase_middle left top = codes "<rect class=\"stripe" ⋅ decimal (top / 20 % 2) ⋅ codes "\" x=\"0\" y=\"" ⋅ decimal top
    ⋅ codes "\" width=\"1000\" height=\"20\"/><text class=\"head phase\" x=\"" ⋅ decimal left ⋅ codes "\" y=\""
    ⋅ decimal (top + 14) ⋅ codes "\">"

-- the line of a task's slack
unfoldable pub slack_element : Span → Task → ℕ → List ℕ
slack_element span task y = codes "<path class=\"slack\" d=\"M" ⋅ decimal (across span (task.start + task.duration))
    ⋅ codes " " ⋅ decimal y ⋅ codes "H" ⋅ decimal (across span (task.latest + task.duration)) ⋅ codes "\"/>"

-- a bar, and a diamond
unfoldable pub bar_element : List ℕ → ℕ → ℕ → ℕ → List ℕ
bar_element class x width y = codes "<rect class=\"" ⋅ class ⋅ codes "\" x=\"" ⋅ decimal x ⋅ codes "\" y=\"" ⋅ decimal y
    ⋅ codes "\" width=\"" ⋅ decimal width ⋅ codes "\" height=\"12\" rx=\"2\"/></g>\n"

unfoldable pub diamond_element : List ℕ → ℕ → ℕ → List ℕ
diamond_element class x y = codes "<path class=\"" ⋅ class ⋅ codes "\" d=\"M" ⋅ decimal x ⋅ codes " " ⋅ decimal y
    ⋅ codes "l6 6l-6 6l-6 -6z\"/></g>\n"

-- the shape of a task: a bar from its start to its end, at least 1 wide, or a diamond if it takes no time
abbrev pub shape_element : Span → Task → ℕ → List ℕ
shape_element span task top =
    let x = across span task.start in
    if task.duration == 0 then diamond_element (shape_class task.is_critical) x top
    else bar_element (shape_class task.is_critical) x (max (across span (task.start + task.duration) - x) 1) top

-- the row of a task that stands in so many phases, at the height `top`
unfoldable pub task_element : Span → ℕ → Task → ℕ → List ℕ
task_element span depth task top =
    tip_element span.calendar task ⋅ row_middle (name_left depth) top
    ⋅ short_text (name_columns depth) (option_map (λ name. name.now) task.name) (codes "task") task.job
    ⋅ codes "</text>" ⋅ slack_element span task (top + 10) ⋅ shape_element span task (top + 4)

-- the row of a phase: its title, and in it as much of that as takes 100 columns
unfoldable pub phase_element : ℕ → List ℕ → ℕ → List ℕ
phase_element depth title top =
    codes "<g><title>" ⋅ escaped title ⋅ codes "</title>" ⋅ phase_middle (name_left depth) top ⋅ text_within 100 title
    ⋅ codes "</text></g>\n"

-- a row of a chart
abbrev pub row_element : Span → Row → ℕ → List ℕ
row_element span (Heading depth title) top = phase_element depth title.now top
row_element span (Bar depth task) top = task_element span depth task top

-- what stands around the rows of tasks that go down to `bottom`: both axes, and the line of the deadline
unfoldable pub frame_element : Span → ℕ → List ℕ
frame_element span bottom =
    axis_above span 34 ⋅ axis span 40 bottom ⋅ deadline_label span ⋅ deadline_line 40 bottom

-- how high a usage is drawn: all units are 60 high
abbrev pub height_of : ℕ → ℕ → ℕ
height_of units used = if units == 0 then 0 else used * 60 / units

-- the steps of a usage
abbrev pub stair_steps : Span → ℕ → List Step → List ℕ
stair_steps span units usage =
    flat_map (λ step. step_text (across span step.from) (80 - height_of units step.units)) usage

-- the stair of a resource's usage
unfoldable pub stair_element : Span → Choice → List ℕ
stair_element span choice = codes "<path class=\"used\" d=\"" ⋅ place_text 270 80
    ⋅ stair_steps span choice.units choice.usage.items ⋅ codes "H970V80Z\"/>"

-- the units of a resource and how busy they are
unfoldable pub panel_numbers : Choice → List ℕ
panel_numbers choice = codes "</text><text x=\"8\" y=\"50\">units " ⋅ decimal choice.units ⋅ codes ", "
    ⋅ decimal choice.busy ⋅ codes "% busy</text>\n"

-- the name of a resource, and these
unfoldable pub panel_title : Choice → List ℕ
panel_title choice = codes "<text class=\"head\" x=\"8\" y=\"32\">"
    ⋅ short_text 40 (option_map (λ name. name.now) choice.name) (codes "resource") choice.resource ⋅ panel_numbers choice

-- the line of all units, and the axis of units
unfoldable pub limit_element : ℕ → List ℕ
limit_element units = codes "<path class=\"limit\" d=\"M270 20H970\"/>" ⋅ scale_element units 24 84

-- what is drawn of a resource
unfoldable pub panel_element : Span → Choice → List ℕ
panel_element span choice =
    panel_title choice ⋅ axis span 10 80 ⋅ stair_element span choice ⋅ limit_element choice.units ⋅ deadline_line 10 80
