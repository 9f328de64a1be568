-- When tasks begin and end, how much work they are, and what they wait for, as planners have it.
use Rattle.std.specs.Prelude.{ℕ, zero, suc, ◌+◌, ◌*◌, ◌==◌, ◌||◌, Bool, List, [], ◌∷◌, max, nat_lt, not, slice_index}
use Rattle.std.specs.List.{list_any}
use Rattle.racp_calendar.specs.Told.{work_between}
use Rattle.racp_calendar.specs.declared.calendar.Calendar.{Calendar}
use Rattle.racp_model.specs.Project.{Project, duration, place, request}
use Rattle.racp_show.specs.declared.predecessor.Predecessor.{Predecessor}
use Rattle.racp_show.specs.declared.task.Task.{Task}

-- when the work of a day begins and ends: eight hours, from 8 to 12 and from 13 to 17
abbrev pub hours_between : Calendar → ℕ → ℕ → ℕ
hours_between calendar start end = 8 * work_between calendar start end

abbrev pub task_hours : Calendar → Task → ℕ
task_hours calendar task = hours_between calendar task.start (task.start + task.duration)

-- what is done by a time is done in the evening, at the time 0 before all work
abbrev pub is_morning : ℕ → Bool
is_morning end = end == 0

-- a task that takes time begins in the morning; one that takes none is done when it begins
abbrev pub begins_early : ℕ → ℕ → Bool
begins_early start duration = not (duration == 0) || is_morning start

-- the end of what a task waits for, and the lag behind it
abbrev pub link_start : Project → List ℕ → Predecessor → ℕ
link_start p starts before = slice_index starts (place before.job) + duration p (place before.job)

abbrev pub link_end : Project → List ℕ → Predecessor → ℕ
link_end p starts before = link_start p starts before + before.lag

-- when the links of a task alone let it begin
abbrev pub ready_at : Project → List ℕ → List Predecessor → ℕ
ready_at p starts [] = 0
ready_at p starts (before ∷ more) = max (link_end p starts before) (ready_at p starts more)

-- they would let it begin earlier than it does
abbrev pub is_tied : Project → List ℕ → Task → Bool
is_tied p starts task = nat_lt (ready_at p starts task.predecessors.items) task.start

-- some job comes right after the one with a number
abbrev pub is_first : List (ℕ × ℕ) → ℕ → Bool
is_first arcs job = list_any (λ arc. arc.0 == job) arcs

abbrev pub is_followed : Project → ℕ → Bool
is_followed p job = is_first p.arcs job

-- how many units the job at place i needs of the resources before place k
abbrev pub units_before : Project → ℕ → ℕ → ℕ
units_before p i zero = 0
units_before p i (suc k) = units_before p i k + request p i k
