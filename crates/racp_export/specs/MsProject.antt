-- A plan as a project of MS Project, in XML.
use Rattle.std.specs.Prelude.{ℕ, zero, suc, ◌+◌, ◌-◌, ◌*◌, ◌==◌, ◌%◌, ◌++◌, Bool, List, [], ◌∷◌, codes, flat_map, length, slice_index, take, replicate, if◌then◌else◌}
use Rattle.std.specs.Fmt.{decimal}
use Rattle.racp_calendar.specs.Dates.{first_text, last_text}
use Rattle.racp_calendar.specs.Told.{counted_text, free_days, is_workday, work_between}
use Rattle.racp_calendar.specs.declared.calendar.Calendar.{Calendar}
use Rattle.racp_charts.specs.Texts.{◌⋅◌, escaped}
use Rattle.racp_model.specs.Project.{Project, number, place, request}
use Rattle.racp_show.specs.declared.predecessor.Predecessor.{Predecessor}
use Rattle.racp_show.specs.declared.row.Row.{Row}
use Rattle.racp_show.specs.declared.row.Row.TheVariants.{Heading, Bar}
use Rattle.racp_show.specs.declared.task.Task.{Task}
use Rattle.racp_export.specs.Told.{Told}
use Rattle.racp_export.specs.Words.{resource_title, task_title}
use Rattle.racp_export.specs.Work.{begins_early, is_followed, is_morning, is_tied, link_start, link_end, task_hours, units_before}

-- a clock time behind a day
abbrev pub clock : Bool → List ℕ
clock early = if early then codes "T08:00:00" else codes "T17:00:00"

-- when a task begins and ends
unfoldable pub start_moment : Calendar → Task → List ℕ
start_moment calendar task =
    first_text calendar task.start task.duration ⋅ clock (begins_early task.start task.duration)

unfoldable pub end_moment : Calendar → Task → List ℕ
end_moment calendar task =
    last_text calendar (task.start + task.duration) ⋅ clock (is_morning (task.start + task.duration))

-- what is said of the whole project, which runs from the first day to the last
unfoldable pub head_lines : List ℕ → List ℕ → List ℕ
head_lines first last =
    codes "<?xml version=\"1.0\" encoding=\"UTF-8\" standalone=\"yes\"?>\n<Project xmlns=\"http://schemas.microsoft.com/project\">\n <SaveVersion>14</SaveVersion>\n <Name>racp</Name>\n <Title>racp</Title>\n <ScheduleFromStart>1</ScheduleFromStart>\n <StartDate>"
    ⋅ first ⋅ codes "T08:00:00</StartDate>\n <FinishDate>" ⋅ last
    ⋅ codes "T17:00:00</FinishDate>\n <CalendarUID>1</CalendarUID>\n <DefaultStartTime>08:00:00</DefaultStartTime>\n <DefaultFinishTime>17:00:00</DefaultFinishTime>\n <MinutesPerDay>480</MinutesPerDay>\n <NewTasksAreManual>0</NewTasksAreManual>\n"

-- a day of the week, from 1 for Sunday
abbrev pub hours_of : Bool → List ℕ
hours_of works =
    if works then codes "1</DayWorking><WorkingTimes><WorkingTime><FromTime>08:00:00</FromTime><ToTime>12:00:00</ToTime></WorkingTime><WorkingTime><FromTime>13:00:00</FromTime><ToTime>17:00:00</ToTime></WorkingTime></WorkingTimes>"
    else codes "0</DayWorking>"

unfoldable pub week_day : ℕ → List ℕ → List ℕ
week_day day hours = codes "    <WeekDay><DayType>" ⋅ decimal day ⋅ codes "</DayType><DayWorking>" ⋅ hours ⋅ codes "</WeekDay>\n"

-- the days of the week before so many, of which the first is Sunday
abbrev pub day_lines : Calendar → ℕ → List ℕ
day_lines calendar day = week_day (day + 1) (hours_of (is_workday calendar ((day + 6) % 7)))

abbrev pub week_before : Calendar → ℕ → List ℕ
week_before calendar zero = []
week_before calendar (suc day) = week_before calendar day ++ day_lines calendar day

-- a day that is free, as MS Project up to 2003 has it, and as later ones have it
unfoldable pub free_day : List ℕ → List ℕ
free_day day =
    codes "    <WeekDay><DayType>0</DayType><DayWorking>0</DayWorking><TimePeriod><FromDate>" ⋅ day
    ⋅ codes "T00:00:00</FromDate><ToDate>" ⋅ day ⋅ codes "T23:59:00</ToDate></TimePeriod></WeekDay>\n"

unfoldable pub exception : List ℕ → List ℕ
exception day =
    codes "    <Exception><EnteredByOccurrences>0</EnteredByOccurrences><TimePeriod><FromDate>" ⋅ day
    ⋅ codes "T00:00:00</FromDate><ToDate>" ⋅ day ⋅ codes "T23:59:00</ToDate></TimePeriod><Occurrences>1</Occurrences><Name>" ⋅ day
    ⋅ codes "</Name><Type>1</Type><DayWorking>0</DayWorking></Exception>\n"

abbrev pub free_line : Calendar → ℕ → List ℕ
free_line calendar day = free_day (counted_text calendar day)

abbrev pub exception_line : Calendar → ℕ → List ℕ
exception_line calendar day = exception (counted_text calendar day)

-- the one calendar, with each free day twice
abbrev pub week_begin : List ℕ
week_begin =
    codes " <Calendars>\n  <Calendar>\n   <UID>1</UID>\n   <Name>Standard</Name>\n   <IsBaseCalendar>1</IsBaseCalendar>\n   <BaseCalendarUID>-1</BaseCalendarUID>\n   <WeekDays>\n"

unfoldable pub week_text : Calendar → List ℕ
week_text calendar =
    week_begin ⋅ week_before calendar 7 ⋅ flat_map (free_line calendar) (free_days calendar)

abbrev pub exceptions_begin : List ℕ
exceptions_begin = codes "   </WeekDays>\n   <Exceptions>\n"

abbrev pub exceptions_end : List ℕ
exceptions_end = codes "   </Exceptions>\n  </Calendar>\n </Calendars>\n"

unfoldable pub exceptions_text : Calendar → List ℕ
exceptions_text calendar =
    exceptions_begin ⋅ flat_map (exception_line calendar) (free_days calendar) ⋅ exceptions_end

-- the numbers of the phases in which a row of this depth stands, and its own: 0 for a phase that is left out
abbrev pub path_to : ℕ → ℕ → List ℕ → List ℕ
path_to id depth path = (take depth path ++ replicate (depth - length path) 0) ++ id ∷ []

-- these with a point between two, as `2.1`
abbrev pub dotted : List ℕ → List ℕ
dotted [] = []
dotted (id ∷ path) = codes "." ⋅ decimal id ⋅ dotted path

abbrev pub outline_number : List ℕ → List ℕ
outline_number [] = []
outline_number (id ∷ path) = decimal id ⋅ dotted path

-- the first lines of a row: its numbers, what it is called, and where it stands
unfoldable pub row_lines : ℕ → ℕ → List ℕ → List ℕ → ℕ → List ℕ
row_lines uid id title outline level =
    codes "  <Task>\n   <UID>" ⋅ decimal uid ⋅ codes "</UID>\n   <ID>" ⋅ decimal id ⋅ codes "</ID>\n   <Name>" ⋅ title
    ⋅ codes "</Name>\n   <Type>1</Type>\n   <IsNull>0</IsNull>\n   <OutlineNumber>" ⋅ outline
    ⋅ codes "</OutlineNumber>\n   <OutlineLevel>" ⋅ decimal level ⋅ codes "</OutlineLevel>\n   <Priority>500</Priority>\n"

-- when a task runs, and how much work it is
unfoldable pub time_lines : List ℕ → List ℕ → ℕ → ℕ → List ℕ
time_lines start finish hours work =
    codes "   <Start>" ⋅ start ⋅ codes "</Start>\n   <Finish>" ⋅ finish ⋅ codes "</Finish>\n   <Duration>PT" ⋅ decimal hours
    ⋅ codes "H0M0S</Duration>\n   <DurationFormat>7</DurationFormat>\n   <Work>PT" ⋅ decimal work
    ⋅ codes "H0M0S</Work>\n   <EffortDriven>0</EffortDriven>\n   <Estimated>0</Estimated>\n"

unfoldable pub kind_lines : ℕ → ℕ → List ℕ
kind_lines milestone summary =
    codes "   <Milestone>" ⋅ decimal milestone ⋅ codes "</Milestone>\n   <Summary>" ⋅ decimal summary
    ⋅ codes "</Summary>\n   <PercentComplete>0</PercentComplete>\n"

-- a task is tied to its start, to start no earlier, if its links alone would let it begin earlier
unfoldable pub tie_lines : Bool → List ℕ → List ℕ
tie_lines tied start =
    if tied then codes "   <ConstraintType>4</ConstraintType>\n   <CalendarUID>-1</CalendarUID>\n   <ConstraintDate>" ⋅ start ⋅ codes "</ConstraintDate>\n"
    else codes "   <ConstraintType>0</ConstraintType>\n   <CalendarUID>-1</CalendarUID>\n"

-- the deadline, if nothing comes after a task
unfoldable pub deadline_lines : Bool → List ℕ → List ℕ
deadline_lines followed last =
    if followed then [] else codes "   <Deadline>" ⋅ last ⋅ codes "T17:00:00</Deadline>\n"

-- a link from the end of a task to the start of this one, with a lag in tenths of minutes
abbrev pub lag_of : Calendar → Project → List ℕ → Predecessor → ℕ
lag_of calendar p starts before = 4800 * work_between calendar (link_start p starts before) (link_end p starts before)

unfoldable pub link_lines : ℕ → ℕ → List ℕ
link_lines job lag =
    codes "   <PredecessorLink>\n    <PredecessorUID>" ⋅ decimal job
    ⋅ codes "</PredecessorUID>\n    <Type>1</Type>\n    <CrossProject>0</CrossProject>\n    <LinkLag>" ⋅ decimal lag
    ⋅ codes "</LinkLag>\n    <LagFormat>7</LagFormat>\n   </PredecessorLink>\n"

abbrev pub link_text : Told → Predecessor → List ℕ
link_text told before = link_lines before.job (lag_of told.calendar told.project told.starts before)

-- what is said of a task
unfoldable pub task_times : Told → Task → List ℕ
task_times told task =
    time_lines (start_moment told.calendar task) (end_moment told.calendar task) (task_hours told.calendar task)
    (task_hours told.calendar task * units_before told.project (place task.job) told.project.resources)

abbrev pub milestone : Task → ℕ
milestone task = if task.duration == 0 then 1 else 0

unfoldable pub task_ties : Told → Task → List ℕ
task_ties told task =
    tie_lines (is_tied told.project told.starts task) (start_moment told.calendar task)
    ⋅ deadline_lines (is_followed told.project task.job) (last_text told.calendar told.deadline)

abbrev pub row_end : List ℕ
row_end = codes "   <Active>1</Active>\n   <Manual>0</Manual>\n  </Task>\n"

unfoldable pub task_lines : Told → Task → List ℕ
task_lines told task =
    task_times told task ⋅ kind_lines (milestone task) 0 ⋅ task_ties told task
    ⋅ flat_map (link_text told) task.predecessors.items ⋅ row_end

-- what is said of a phase
unfoldable pub phase_lines : List ℕ
phase_lines = kind_lines 0 1 ⋅ row_end

-- a row: the number of a phase is behind those of all jobs
abbrev pub depth_of : Row → ℕ
depth_of (Heading depth title) = depth
depth_of (Bar depth task) = depth

abbrev pub uid_of : Project → ℕ → Row → ℕ
uid_of p id (Heading depth title) = length p.jobs + id
uid_of p id (Bar depth task) = task.job

abbrev pub title_of : Row → List ℕ
title_of (Heading depth title) = title.now
title_of (Bar depth task) = task_title task

abbrev pub row_head : Project → ℕ → List ℕ → Row → List ℕ
row_head p id outline row = row_lines (uid_of p id row) id (escaped (title_of row)) outline (depth_of row + 1)

abbrev pub row_rest : Told → Row → List ℕ
row_rest told (Heading depth title) = phase_lines
row_rest told (Bar depth task) = task_lines told task

unfoldable pub row_text : Told → ℕ → List ℕ → Row → List ℕ
row_text told id path row = row_head told.project id (outline_number path) row ⋅ row_rest told row

-- the rows, numbered from one on
abbrev pub rows_from : Told → ℕ → List ℕ → List Row → List ℕ
rows_from told id path [] = []
rows_from told id path (row ∷ rows) =
    row_text told id (path_to id (depth_of row) path) row ++ rows_from told (id + 1) (path_to id (depth_of row) path) rows

-- a resource, with as many units as there are
unfoldable pub resource_lines : ℕ → List ℕ → ℕ → List ℕ
resource_lines uid title units =
    codes "  <Resource>\n   <UID>" ⋅ decimal uid ⋅ codes "</UID>\n   <ID>" ⋅ decimal uid ⋅ codes "</ID>\n   <Name>" ⋅ title
    ⋅ codes "</Name>\n   <Type>1</Type>\n   <IsNull>0</IsNull>\n   <MaxUnits>" ⋅ decimal units
    ⋅ codes ".0</MaxUnits>\n   <CanLevel>1</CanLevel>\n   <StandardRate>0</StandardRate>\n   <CalendarUID>-1</CalendarUID>\n  </Resource>\n"

unfoldable pub resource_text : Told → ℕ → List ℕ
resource_text told k =
    resource_lines (number k) (escaped (resource_title told.project told.names k)) (slice_index told.capacities k)

abbrev pub resources_before : Told → ℕ → List ℕ
resources_before told zero = []
resources_before told (suc k) = resources_before told k ++ resource_text told k

-- what a task needs of a resource, if it needs some of it: its units, and the work of them
unfoldable pub need_lines : ℕ → ℕ → ℕ → List ℕ
need_lines uid job resource =
    codes "  <Assignment>\n   <UID>" ⋅ decimal uid ⋅ codes "</UID>\n   <TaskUID>" ⋅ decimal job
    ⋅ codes "</TaskUID>\n   <ResourceUID>" ⋅ decimal resource ⋅ codes "</ResourceUID>\n"

unfoldable pub units_lines : List ℕ → List ℕ → ℕ → ℕ → List ℕ
units_lines start finish units work =
    codes "   <Finish>" ⋅ finish ⋅ codes "</Finish>\n   <Start>" ⋅ start ⋅ codes "</Start>\n   <Units>" ⋅ decimal units
    ⋅ codes ".0</Units>\n   <Work>PT" ⋅ decimal work ⋅ codes "H0M0S</Work>\n  </Assignment>\n"

unfoldable pub need_text : Told → Task → ℕ → List ℕ
need_text told task k =
    need_lines (place task.job * told.project.resources + number k) task.job (number k)
    ⋅ units_lines (start_moment told.calendar task) (end_moment told.calendar task) (request told.project (place task.job) k)
    (task_hours told.calendar task * request told.project (place task.job) k)

abbrev pub need_if : Told → Task → ℕ → List ℕ
need_if told task k = if request told.project (place task.job) k == 0 then [] else need_text told task k

abbrev pub needs_before : Told → Task → ℕ → List ℕ
needs_before told task zero = []
needs_before told task (suc k) = needs_before told task k ++ need_if told task k

abbrev pub row_needs : Told → Row → List ℕ
row_needs told (Heading depth title) = []
row_needs told (Bar depth task) = needs_before told task told.project.resources

-- the tasks, the resources, and what tasks need of them
unfoldable pub tasks_text : Told → List Row → List ℕ
tasks_text told rows = codes " <Tasks>\n" ⋅ rows_from told 1 [] rows ⋅ codes " </Tasks>\n"

unfoldable pub resources_text : Told → List ℕ
resources_text told = codes " <Resources>\n" ⋅ resources_before told told.project.resources ⋅ codes " </Resources>\n"

unfoldable pub needs_text : Told → List Row → List ℕ
needs_text told rows = codes " <Assignments>\n" ⋅ flat_map (row_needs told) rows ⋅ codes " </Assignments>\n</Project>\n"

-- the whole project
unfoldable pub project_text : Told → List Row → List ℕ
project_text told rows =
    head_lines (first_text told.calendar 0 1) (last_text told.calendar told.deadline) ⋅ week_text told.calendar
    ⋅ exceptions_text told.calendar ⋅ tasks_text told rows ⋅ resources_text told ⋅ needs_text told rows
