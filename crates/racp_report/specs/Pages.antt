-- A page: what stands in it, from its head to its end, but for its style.
use Rattle.std.specs.Prelude.{◌≡◌, ℕ, ◌+◌, ◌-◌, ◌*◌, ◌==◌, ◌&&◌, Bool, List, [], ◌∷◌, Option, Some, None, String, codes, flat_map, length, option_map, string_bytes, if◌then◌else◌}
use Rattle.std.specs.Fmt.{decimal}
use Rattle.std.specs.Global.{Global}
use Rattle.racp_json.specs.declared.curve.Step.{Step}
use Rattle.racp_calendar.specs.Dates.{first_text, last_text}
use Rattle.racp_calendar.specs.declared.calendar.Calendar.{Calendar}
use Rattle.racp_calendar.specs.declared.calendar.Calendar.TheVariants.{Numbers, Dates}
use Rattle.std.specs.Str.Lines.{lines}
use Rattle.racp_charts.specs.Texts.{◌⋅◌, escaped}
use Rattle.racp_charts.specs.declared.choice.Choice.{Choice}
use Rattle.racp_report.specs.Claims.{claim_element}
use Rattle.racp_report.specs.declared.claim.Claim.{Claim}
use Rattle.racp_report.specs.declared.report.Report.{Report}
use Rattle.racp_show.specs.declared.row.Row.{Row}
use Rattle.racp_show.specs.declared.row.Row.TheVariants.{Heading, Bar}
use Rattle.racp_show.specs.declared.task.Task.{Task}
use Rattle.racp_charts.specs.Pictures.{plan_title, whole}
use Rattle.racp_charts.specs.declared.drawing.Drawing.{Drawing}
use Rattle.racp_report.specs.Drawings.{cost_figure, key_figure, panel_figure, row_blocks}
use Rattle.racp_charts.specs.Elements.{name_text, predecessor_list, shape_class}

-- the beginning of a page, up to its style
unfoldable pub opening_element : Drawing → List ℕ
opening_element plan =
    (codes "<!DOCTYPE html>\n<html lang=\"en\">\n<head>\n<meta charset=\"utf-8\">\n<meta name=\"viewport\" "
    ⋅ codes "content=\"width=device-width, initial-scale=1\">\n<title>")
    ⋅ plan_title plan.calendar plan.cost plan.deadline ⋅ codes "</title>\n"

-- its title
unfoldable pub title_element : Drawing → List ℕ
title_element plan =
    codes "</head>\n<body>\n<main>\n<h1>" ⋅ plan_title plan.calendar plan.cost plan.deadline ⋅ codes "</h1>\n"

-- the cost and the deadline, and the critical length and the number of tasks
unfoldable pub cost_element : ℕ → List ℕ
cost_element cost =
    codes "<dl><div><dt>Cost</dt><dd>" ⋅ decimal cost ⋅ codes "</dd></div><div><dt>Deadline</dt><dd>"

unfoldable pub times_element : Drawing → List ℕ
times_element plan = cost_element plan.cost ⋅ last_text plan.calendar plan.deadline ⋅ codes "</dd></div>"

unfoldable pub lengths_element : ℕ → ℕ → List ℕ
lengths_element critical tasks =
    codes "<div><dt>Critical length</dt><dd>" ⋅ decimal critical ⋅ codes "</dd></div><div><dt>Tasks</dt><dd>"
    ⋅ decimal tasks ⋅ codes "</dd></div></dl>\n"

-- the heading
unfoldable pub heading_element : Drawing → Claim → List ℕ
heading_element plan claim =
    title_element plan ⋅ times_element plan ⋅ lengths_element plan.critical plan.task_count ⋅ claim_element plan.cost claim

-- how the plan is checked, and the end of the page
unfoldable pub checking_element : List ℕ
checking_element =
    codes "<h2>How to check it</h2>\n<p>NET, ORDER and PLAN are the files that this page was made of. The "
    ⋅ codes "first command says whether the plan keeps the order; it prints <code>ok</code>. The second makes a "
    ⋅ codes "certificate, which may take long, and the third checks it: <code>verified</code> says that no "
    ⋅ codes "cheaper choice keeps the deadline. The last one makes this page anew, which then says so.</p>\n"
    ⋅ codes "<pre>racp check NET ORDER PLAN\nracp prove NET ORDER --facts &gt; PROOF\nracp verify NET ORDER PLAN "
    ⋅ codes "PROOF\nracp report NET ORDER PLAN --proof PROOF</pre>\n</main>\n</body>\n</html>\n"

-- the numbers of a resource: it costs the price of the units that are not owned
unfoldable pub choice_cells : Choice → List ℕ
choice_cells choice =
    codes "</th><td>" ⋅ decimal choice.units ⋅ codes "</td><td>" ⋅ decimal choice.owned ⋅ codes "</td><td>"
    ⋅ decimal choice.price ⋅ codes "</td><td>" ⋅ decimal (choice.price * (choice.units - choice.owned))
    ⋅ codes "</td><td>" ⋅ decimal choice.busy ⋅ codes "%</td></tr>\n"

-- the row of a resource
unfoldable pub choice_row : Choice → List ℕ
choice_row choice =
    codes "<tr><th scope=\"row\">"
    ⋅ name_text (option_map (λ name. name.now) choice.name) (codes "resource") choice.resource ⋅ choice_cells choice

-- the row of what all resources cost, and the end of their table
unfoldable pub total_row : ℕ → List ℕ
total_row cost =
    codes "</tbody><tfoot><tr><th scope=\"row\">Together</th><td></td><td></td><td></td><td>" ⋅ decimal cost
    ⋅ codes "</td><td></td></tr></tfoot></table></div>\n"

-- the table of the resources
unfoldable pub choice_table : Report → List ℕ
choice_table report =
    (codes "<h2>What to have</h2>\n<div class=\"wide\"><table>\n<thead><tr><th>Resource</th><th>Units</th>"
    ⋅ codes "<th>Owned</th><th>Price</th><th>Cost</th><th>Busy</th></tr></thead>\n<tbody>\n")
    ⋅ flat_map choice_row report.plan.choices.items ⋅ total_row report.plan.cost

-- the charts of the tasks and of the resources
unfoldable pub charts : Report → List ℕ
charts report =
    codes "<h2>When each task runs</h2>\n" ⋅ key_figure
    ⋅ row_blocks (whole report.plan) (length report.plan.rows.items) 0 report.plan.rows.items
    ⋅ codes "<h2>How much of each resource is used</h2>\n"
    ⋅ flat_map (panel_figure (whole report.plan)) report.plan.choices.items

-- the beginning of the row of a task
unfoldable pub task_row_begin : Task → List ℕ
task_row_begin task =
    codes "<tr class=\"" ⋅ shape_class task.is_critical ⋅ codes "\"><td class=\"left\">" ⋅ decimal task.job
    ⋅ codes "</td><th scope=\"row\""

-- how far in a cell begins that stands in so many phases
unfoldable pub padding_style : ℕ → List ℕ
padding_style depth = codes " style=\"padding-left:" ⋅ decimal (depth * 2) ⋅ codes "em\""

abbrev pub padding : ℕ → List ℕ
padding depth = if depth == 0 then [] else padding_style depth

-- whether a task is on the critical chain
abbrev pub yes_text : Bool → List ℕ
yes_text critical = if critical then codes "yes" else []

-- how long it takes, and its slack
unfoldable pub task_duration : ℕ → List ℕ
task_duration duration = codes "</th><td>" ⋅ decimal duration ⋅ codes "</td><td>"

unfoldable pub task_slack : ℕ → List ℕ
task_slack slack = codes "</td><td>" ⋅ decimal slack ⋅ codes "</td><td class=\"left\">"

-- its times: how long it takes, when it starts and ends, and its slack
unfoldable pub task_times : Calendar → Task → List ℕ
task_times calendar task =
    task_duration task.duration ⋅ first_text calendar task.start task.duration ⋅ codes "</td><td>"
    ⋅ last_text calendar (task.start + task.duration) ⋅ task_slack (task.latest - task.start)

-- these, and whether it is on the critical chain
unfoldable pub task_cells : Calendar → Task → List ℕ
task_cells calendar task = task_times calendar task ⋅ yes_text task.is_critical ⋅ codes "</td><td class=\"left\">"

-- the row of a task: its number, its name, how long it takes, when it starts and ends, its slack, whether it is on the
-- critical chain, and what it waits for
unfoldable pub task_row : Calendar → ℕ → Task → List ℕ
task_row calendar depth task =
    task_row_begin task ⋅ padding depth ⋅ codes ">"
    ⋅ name_text (option_map (λ name. name.now) task.name) (codes "task") task.job
    ⋅ task_cells calendar task ⋅ predecessor_list 0 task.predecessors.items ⋅ codes "</td></tr>\n"

-- the row of a phase: its title
unfoldable pub phase_row : ℕ → List ℕ → List ℕ
phase_row depth title =
    codes "<tr class=\"phase\"><td class=\"left\" colspan=\"8\"" ⋅ padding depth ⋅ codes "><b>" ⋅ escaped title
    ⋅ codes "</b></td></tr>\n"

-- a row
abbrev pub table_row : Calendar → Row → List ℕ
table_row calendar (Heading depth title) = phase_row depth title.now
table_row calendar (Bar depth task) = task_row calendar depth task

-- what the columns of the times of a task are called
abbrev pub time_titles : Calendar → List ℕ
time_titles Numbers = codes "<th>Start</th><th>End</th>"
time_titles (Dates calendar) = codes "<th>First day</th><th>Last day</th>"

-- the table of the phases and the tasks
unfoldable pub task_table : Report → List ℕ
task_table report =
    (codes "<h2>The tasks</h2>\n<div class=\"wide\"><table>\n<thead><tr><th>No.</th><th class=\"left\">"
    ⋅ codes "Task</th><th>Duration</th>") ⋅ time_titles report.plan.calendar
    ⋅ (codes "<th>Slack</th><th class=\"left\">Critical</th><th class=\"left\">After</th></tr></thead>\n<tbody>\n")
    ⋅ flat_map (table_row report.plan.calendar) report.plan.rows.items ⋅ codes "</tbody></table></div>\n"

-- the deadline and the cost of a step
unfoldable pub cost_text : ℕ → List ℕ
cost_text cost = codes "</td><td>" ⋅ decimal cost ⋅ codes "</td><td>"

unfoldable pub cost_cells : Calendar → Step → List ℕ
cost_cells calendar step =
    codes "<tr><td class=\"left\">" ⋅ last_text calendar step.deadline ⋅ cost_text step.cost

-- a number of units
unfoldable pub unit_text : ℕ → List ℕ
unit_text count =
    codes " " ⋅ decimal count

-- the row of a step
unfoldable pub cost_row : Calendar → Step → List ℕ
cost_row calendar step =
    cost_cells calendar step ⋅ flat_map unit_text step.capacities.items ⋅ codes "</td></tr>\n"

-- what deadlines cost, from the steps of a curve
unfoldable pub cost_table : Calendar → ℕ → List Step → List ℕ
cost_table calendar deadline costs =
    codes "<h2>What each deadline costs</h2>\n" ⋅ cost_figure calendar costs deadline
    ⋅ (codes "<div class=\"wide\"><table>\n<thead><tr><th>From deadline</th><th>Cost</th><th>Units of each "
    ⋅ codes "resource</th></tr></thead>\n<tbody>\n")
    ⋅ flat_map (cost_row calendar) costs ⋅ codes "</tbody></table></div>\n"

-- nothing is said of it without steps
abbrev pub cost_section : Calendar → ℕ → List Step → List ℕ
cost_section calendar deadline [] = []
cost_section calendar deadline (step ∷ steps) = cost_table calendar deadline (step ∷ steps)

-- what stands before the first `: ` of a line, and what stands behind it; none if there is no `: `
abbrev pub halves : List ℕ → Option (List ℕ × List ℕ)
halves [] = None
halves (byte ∷ []) = None
halves (byte ∷ next ∷ rest) =
    if byte == 58 && next == 32 then Some ([], rest) else option_map (λ found. (byte ∷ found.0, found.1)) (halves (next ∷ rest))

-- the row of a change and of what becomes of it
unfoldable pub change_cells : List ℕ → List ℕ → List ℕ
change_cells change outcome =
    codes "<tr><th scope=\"row\">" ⋅ escaped change ⋅ codes "</th><td class=\"left\">" ⋅ escaped outcome
    ⋅ codes "</td></tr>\n"

-- nothing if there is no change
abbrev pub cells_of : Option (List ℕ × List ℕ) → List ℕ
cells_of None = []
cells_of (Some found) = change_cells found.0 found.1

-- the row of a line, if it tells a change
abbrev pub change_row : List ℕ → List ℕ
change_row line = cells_of (halves line)

-- what changes would cost, from their lines
unfoldable pub change_table : List ℕ → List ℕ
change_table changes =
    (codes "<h2>What changes would cost</h2>\n<p>Each row has the cheapest plan with one term of the order changed, "
    ⋅ codes "beside this one. Times are numbers of time units.</p>\n<div class=\"wide\"><table>\n<thead><tr>"
    ⋅ codes "<th class=\"left\">Change</th><th class=\"left\">What becomes of it</th></tr></thead>\n<tbody>\n")
    ⋅ flat_map change_row (lines changes) ⋅ codes "</tbody></table></div>\n"

-- nothing is said of them without lines
abbrev pub change_section : List ℕ → List ℕ
change_section [] = []
change_section (byte ∷ bytes) = change_table (byte ∷ bytes)

-- all of a page that stands behind its style
unfoldable pub body_of : Report → List ℕ
body_of report =
    heading_element report.plan report.claim ⋅ choice_table report ⋅ charts report ⋅ task_table report
    ⋅ cost_section report.plan.calendar report.plan.deadline report.costs.items ⋅ change_section report.changes.now
    ⋅ checking_element

-- a page of a report: its beginning, some style, and its body
abbrev pub IsPage : Report → String Global → Type 0
IsPage report text = (style : List ℕ) ×
    (string_bytes text ≡ opening_element report.plan ⋅ style ⋅ body_of report)
