-- A plan as a table: in Markdown, and of comma-separated values.
use Rattle.std.specs.Prelude.{ℕ, zero, suc, ◌+◌, ◌++◌, List, [], ◌∷◌, codes, flat_map}
use Rattle.std.specs.Fmt.{decimal}
use Rattle.csv.specs.Writing.{default_writer, row_text}
use Rattle.racp_calendar.specs.Dates.{first_text, last_text}
use Rattle.racp_calendar.specs.declared.calendar.Calendar.{Calendar}
use Rattle.racp_charts.specs.Elements.{predecessor_list}
use Rattle.racp_charts.specs.Texts.{◌⋅◌}
use Rattle.racp_model.specs.Project.{Project, place, request}
use Rattle.racp_show.specs.declared.row.Row.{Row}
use Rattle.racp_show.specs.declared.row.Row.TheVariants.{Heading, Bar}
use Rattle.racp_show.specs.declared.task.Task.{Task}
use Rattle.racp_export.specs.Letters.{spelled}
use Rattle.racp_export.specs.Words.{needs_text, resource_title, task_title}
use Rattle.racp_export.specs.declared.letters.Letters.TheVariants.{Markdown}

-- the titles of the columns of a table in Markdown
unfoldable pub markdown_head : List ℕ
markdown_head =
    codes "| No. | Task | First day | Last day | Duration | After | Needs |\n"
    ⋅ codes "| ---: | --- | --- | --- | ---: | --- | --- |\n"

-- the row of a phase
unfoldable pub markdown_phase : List ℕ → List ℕ
markdown_phase title = codes "| | **" ⋅ title ⋅ codes "** | | | | | |\n"

-- the row of a task: its number, what it is called and its days; how long it takes, what it waits for, and what it needs
unfoldable pub markdown_days : Calendar → Task → List ℕ
markdown_days calendar task =
    codes "| " ⋅ decimal task.job ⋅ codes " | " ⋅ spelled Markdown (task_title task) ⋅ codes " | "
    ⋅ first_text calendar task.start task.duration ⋅ codes " | " ⋅ last_text calendar (task.start + task.duration)

unfoldable pub markdown_needs : Task → List ℕ → List ℕ
markdown_needs task needs =
    codes " | " ⋅ decimal task.duration ⋅ codes " | " ⋅ predecessor_list 0 task.predecessors.items ⋅ codes " | " ⋅ needs
    ⋅ codes " |\n"

unfoldable pub markdown_task : Calendar → Project → List (List ℕ) → Task → List ℕ
markdown_task calendar p names task =
    markdown_days calendar task ⋅ markdown_needs task (spelled Markdown (needs_text p names (place task.job)))

abbrev pub markdown_row : Calendar → Project → List (List ℕ) → Row → List ℕ
markdown_row calendar p names (Heading depth title) = markdown_phase (spelled Markdown title.now)
markdown_row calendar p names (Bar depth task) = markdown_task calendar p names task

-- the table in Markdown, with a row for each phase and each task
unfoldable pub markdown_text : Calendar → Project → List (List ℕ) → List Row → List ℕ
markdown_text calendar p names rows = markdown_head ⋅ flat_map (markdown_row calendar p names) rows

-- the fields of a table of comma-separated values: what each table has, and a column for each resource before place k
abbrev pub fixed_titles : List (List ℕ)
fixed_titles =
    codes "id" ∷ (codes "name" ∷ (codes "level" ∷ (codes "duration" ∷ (codes "predecessors" ∷ (codes "start" ∷ (codes "finish" ∷ []))))))

abbrev pub titles_before : Project → List (List ℕ) → ℕ → List (List ℕ)
titles_before p names zero = fixed_titles
titles_before p names (suc k) = titles_before p names k ++ resource_title p names k ∷ []

-- those of a phase: what it is called, and in how many phases it stands
abbrev pub phase_fields : ℕ → List ℕ → List (List ℕ)
phase_fields depth title = [] ∷ (title ∷ (decimal depth ∷ ([] ∷ ([] ∷ ([] ∷ ([] ∷ []))))))

abbrev pub phase_before : ℕ → List ℕ → ℕ → List (List ℕ)
phase_before depth title zero = phase_fields depth title
phase_before depth title (suc k) = phase_before depth title k ++ [] ∷ []

-- those of a task: its number, what it is called, in how many phases it stands, how long it takes, what it waits for, its
-- first and its last day, and how many units of each resource it needs
abbrev pub name_fields : ℕ → Task → List (List ℕ)
name_fields depth task = decimal task.job ∷ (task_title task ∷ (decimal depth ∷ []))

abbrev pub time_fields : Calendar → Task → List (List ℕ)
time_fields calendar task =
    decimal task.duration ∷ (predecessor_list 0 task.predecessors.items ∷ (first_text calendar task.start task.duration
    ∷ (last_text calendar (task.start + task.duration) ∷ [])))

-- fields, and behind them how many units of each resource before place k the job at place i needs
abbrev pub units_behind : List (List ℕ) → Project → ℕ → ℕ → List (List ℕ)
units_behind fields p i zero = fields
units_behind fields p i (suc k) = units_behind fields p i k ++ decimal (request p i k) ∷ []

abbrev pub task_fields : Calendar → Project → ℕ → Task → List (List ℕ)
task_fields calendar p depth task =
    units_behind (name_fields depth task ++ time_fields calendar task) p (place task.job) p.resources

-- those of a row
abbrev pub row_fields : Calendar → Project → Row → List (List ℕ)
row_fields calendar p (Heading depth title) = phase_before depth title.now p.resources
row_fields calendar p (Bar depth task) = task_fields calendar p depth task

abbrev pub csv_row : Calendar → Project → Row → List ℕ
csv_row calendar p row = row_text default_writer (row_fields calendar p row)

-- the table of comma-separated values, with a row for each phase and each task
unfoldable pub csv_text : Calendar → Project → List (List ℕ) → List Row → List ℕ
csv_text calendar p names rows =
    row_text default_writer (titles_before p names p.resources) ++ flat_map (csv_row calendar p) rows
