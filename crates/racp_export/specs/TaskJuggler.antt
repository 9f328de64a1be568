-- A plan as a project of TaskJuggler.
use Rattle.std.specs.Prelude.{◌≡◌, ℕ, zero, suc, ◌+◌, ◌==◌, ◌++◌, Bool, List, [], ◌∷◌, codes, flat_map, slice_index, if◌then◌else◌}
use Rattle.std.specs.Fmt.{decimal}
use Rattle.racp_calendar.specs.Dates.{first_text, last_text}
use Rattle.racp_calendar.specs.Told.{counted_text, free_days, is_workday, work_between}
use Rattle.racp_calendar.specs.declared.calendar.Calendar.{Calendar}
use Rattle.racp_charts.specs.Texts.{◌⋅◌}
use Rattle.racp_model.specs.Project.{number, place}
use Rattle.racp_show.specs.declared.predecessor.Predecessor.{Predecessor}
use Rattle.racp_show.specs.declared.row.Row.{Row}
use Rattle.racp_show.specs.declared.row.Row.TheVariants.{Heading, Bar}
use Rattle.racp_show.specs.declared.task.Task.{Task}
use Rattle.racp_export.specs.Bookings.{AreBooks, serves}
use Rattle.racp_export.specs.Days.{day_behind}
use Rattle.racp_export.specs.Letters.{spelled}
use Rattle.racp_export.specs.Told.{Told}
use Rattle.racp_export.specs.Words.{resource_title, task_title}
use Rattle.racp_export.specs.Work.{is_morning, link_end, link_start}
use Rattle.racp_export.specs.declared.letters.Letters.TheVariants.{TaskJuggler}

-- what is said of the whole project, which runs from the first day to the day behind the last
unfoldable pub frame_lines : List ℕ → List ℕ → List ℕ
frame_lines first behind =
    codes "project racp \"racp\" " ⋅ first ⋅ codes " - " ⋅ behind ⋅ codes " {\n  timezone \"UTC\"\n  dailyworkinghours 8\n"

-- a day of the week, from 0 for Monday
abbrev pub day_name : ℕ → List ℕ
day_name day =
    if day == 0 then codes "mon" else (if day == 1 then codes "tue" else (if day == 2 then codes "wed"
    else (if day == 3 then codes "thu" else (if day == 4 then codes "fri" else (if day == 5 then codes "sat" else codes "sun")))))

abbrev pub day_hours : Bool → List ℕ
day_hours works = if works then codes "8:00 - 12:00, 13:00 - 17:00" else codes "off"

unfoldable pub hours_line : List ℕ → List ℕ → List ℕ
hours_line day hours = codes "  workinghours " ⋅ day ⋅ codes " " ⋅ hours ⋅ codes "\n"

unfoldable pub day_line : Calendar → ℕ → List ℕ
day_line calendar day = hours_line (day_name day) (day_hours (is_workday calendar day))

-- the days of the week before so many
abbrev pub days_before : Calendar → ℕ → List ℕ
days_before calendar zero = []
days_before calendar (suc day) = days_before calendar day ++ day_line calendar day

-- a day that is free
unfoldable pub leave_line : List ℕ → List ℕ
leave_line day = codes "leaves holiday \"" ⋅ day ⋅ codes "\" " ⋅ day ⋅ codes "\n"

abbrev pub free_leave : Calendar → ℕ → List ℕ
free_leave calendar day = leave_line (counted_text calendar day)

-- the project and its calendar
unfoldable pub frame_text : Told → List ℕ
frame_text told =
    frame_lines (first_text told.calendar 0 1) (day_behind (last_text told.calendar told.deadline)) ⋅ days_before told.calendar 7
    ⋅ codes "}\n" ⋅ flat_map (free_leave told.calendar) (free_days told.calendar)

-- a unit of a resource, both numbered from one on
unfoldable pub unit_line : ℕ → ℕ → List ℕ → List ℕ
unit_line resource unit title =
    codes "  resource r" ⋅ decimal resource ⋅ codes "_" ⋅ decimal unit ⋅ codes " \"" ⋅ title ⋅ codes " " ⋅ decimal unit
    ⋅ codes "\"\n"

abbrev pub units_before : ℕ → List ℕ → ℕ → List ℕ
units_before resource title zero = []
units_before resource title (suc unit) = units_before resource title unit ++ unit_line resource (unit + 1) title

-- a resource with its units
unfoldable pub resource_line : ℕ → List ℕ → List ℕ
resource_line resource title = codes "resource r" ⋅ decimal resource ⋅ codes " \"" ⋅ title ⋅ codes "\" {\n"

abbrev pub resource_units : ℕ → List ℕ → ℕ → List ℕ
resource_units resource title units =
    resource_line resource title ⋅ units_before resource title units ⋅ codes "}\n"

unfoldable pub staff_text : Told → ℕ → List ℕ
staff_text told k =
    resource_units (number k) (spelled TaskJuggler (resource_title told.project told.names k)) (slice_index told.capacities k)

abbrev pub staff_before : Told → ℕ → List ℕ
staff_before told zero = []
staff_before told (suc k) = staff_before told k ++ staff_text told k

-- when a task runs; one that takes no time is a milestone
unfoldable pub milestone_lines : List ℕ → Bool → List ℕ
milestone_lines day early =
    codes "  milestone\n  start " ⋅ day ⋅ (if early then codes "-08:00\n" else codes "-17:00\n")

unfoldable pub span_lines : List ℕ → List ℕ → List ℕ
span_lines first last = codes "  start " ⋅ first ⋅ codes "-08:00\n  end " ⋅ last ⋅ codes "-17:00\n"

unfoldable pub run_lines : Calendar → Task → List ℕ
run_lines calendar task =
    if task.duration == 0
    then milestone_lines (last_text calendar (task.start + task.duration)) (is_morning task.start)
    else span_lines (first_text calendar task.start task.duration) (last_text calendar (task.start + task.duration))

-- the units that serve the job at place i: of a resource from one unit on, and of all from one resource on
unfoldable pub booking_line : ℕ → ℕ → List ℕ
booking_line resource unit = codes "  allocate r" ⋅ decimal resource ⋅ codes "_" ⋅ decimal unit ⋅ codes "\n"

abbrev pub booking_if : Bool → ℕ → ℕ → List ℕ
booking_if serving k unit = if serving then booking_line (number k) (number unit) else []

abbrev pub bookings_from : ℕ → ℕ → ℕ → List (List ℕ) → List ℕ
bookings_from i k unit [] = []
bookings_from i k unit (jobs ∷ book) = booking_if (serves jobs i) k unit ++ bookings_from i k (unit + 1) book

abbrev pub all_bookings : ℕ → ℕ → List (List (List ℕ)) → List ℕ
all_bookings i k [] = []
all_bookings i k (book ∷ books) = bookings_from i k 0 book ++ all_bookings i (k + 1) books

-- what a task waits for, with as many working days between as its lag has
unfoldable pub wait_line : ℕ → ℕ → ℕ → List ℕ
wait_line job lag days =
    if lag == 0 then codes "  depends !t" ⋅ decimal job ⋅ codes "\n"
    else codes "  depends !t" ⋅ decimal job ⋅ codes " { gaplength " ⋅ decimal days ⋅ codes "d }\n"

abbrev pub days_between : Told → Predecessor → ℕ
days_between told before =
    work_between told.calendar (link_start told.project told.starts before) (link_end told.project told.starts before)

abbrev pub wait_text : Told → Predecessor → List ℕ
wait_text told before = wait_line before.job before.lag (days_between told before)

-- a task
unfoldable pub job_line : ℕ → List ℕ → List ℕ
job_line job title = codes "task t" ⋅ decimal job ⋅ codes " \"" ⋅ title ⋅ codes "\" {\n"

unfoldable pub job_text : Told → List (List (List ℕ)) → Task → List ℕ
job_text told books task =
    job_line task.job (spelled TaskJuggler (task_title task)) ⋅ run_lines told.calendar task
    ⋅ all_bookings (place task.job) 0 books ⋅ flat_map (wait_text told) task.predecessors.items ⋅ codes "}\n"

-- a phase is a remark
unfoldable pub remark : List ℕ → List ℕ
remark title = codes "# " ⋅ title ⋅ codes "\n"

abbrev pub plan_row : Told → List (List (List ℕ)) → Row → List ℕ
plan_row told books (Heading depth title) = remark (spelled TaskJuggler title.now)
plan_row told books (Bar depth task) = job_text told books task

abbrev pub report_lines : List ℕ
report_lines =
    codes "taskreport \"tasks\" {\n  formats csv\n  timeformat \"%Y-%m-%d %H:%M\"\n  columns id, name, start, end, resources\n}\n"

-- the whole project, with the units that serve each task
unfoldable pub juggler_text : Told → List (List (List ℕ)) → List Row → List ℕ
juggler_text told books rows =
    frame_text told ⋅ staff_before told told.project.resources ⋅ flat_map (plan_row told books) rows ⋅ report_lines

pub record IsJuggled (told : Told) (rows : List Row) (text : List ℕ) : Type 0 where
  pub books : List (List (List ℕ))
  pub right : AreBooks told.project told.starts told.capacities books
  pub written : text ≡ juggler_text told books rows
