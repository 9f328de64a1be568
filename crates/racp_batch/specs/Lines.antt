-- The rows of the table, as comma-separated values.
use Rattle.std.specs.Prelude.{ℕ, ◌-◌, ◌*◌, ◌/◌, ◌%◌, ◌++◌, ◌∷◌, [], List, Bool, Option, Some, None, codes, if◌then◌else◌, max, nat_lt, option_map, string_bytes, unwrap_or}
use Rattle.std.specs.Fmt.{decimal}
use Rattle.csv.specs.Writing.{default_writer, row_text}
use Rattle.racp_calendar.specs.Dates.{has_dates, last_word}
use Rattle.racp_calendar.specs.declared.calendar.Calendar.{Calendar}
use Rattle.racp_whatif.specs.declared.outcome.Outcome.{Outcome}
use Rattle.racp_whatif.specs.declared.outcome.Outcome.TheVariants.{Plan as ThePlan, TooLong, TooLate, NoneEnough, Open}
use Rattle.racp_batch.specs.Cases.{Matter}
use Rattle.racp_batch.specs.declared.case.Input.{Input}
use Rattle.racp_batch.specs.declared.case.Input.TheVariants.{Network, Fault}
use Rattle.racp_batch.specs.declared.cells.Cells.{Cells}
use Rattle.racp_batch.specs.declared.cells.Status.{Status}
use Rattle.racp_batch.specs.declared.cells.Status.TheVariants as statuses
use Rattle.racp_batch.specs.declared.row.Answered.{Answered as AnsweredRow}
use Rattle.racp_batch.specs.declared.row.Row.{Row}
use Rattle.racp_batch.specs.declared.row.Row.TheVariants.{Answered, Late, Refused, Memory, NoThread}
use Rattle.racp_batch.specs.declared.row.Work.{Work}

-- what came of a case, in a word
abbrev pub status_word : Status → List ℕ
status_word statuses.Optimal = codes "optimal"
status_word statuses.Impossible = codes "impossible"
status_word statuses.Stopped = codes "stopped"
status_word statuses.Refused = codes "refused"
status_word statuses.Memory = codes "memory"
status_word statuses.NoThread = codes "no thread"

-- by how many percent of the bound a cost exceeds it, rounded down; of 1 if the bound is 0
abbrev pub gap : ℕ → ℕ → ℕ
gap best bound = (best - bound) * 100 / max bound 1

-- the cells of a row with such a network and status, of which no more is known
abbrev pub sized : Option ℕ → Option ℕ → Status → Cells
sized jobs resources status = record {
  jobs = jobs;
  resources = resources;
  deadline = None;
  status = status;
  cost = None;
  bound = None;
  best = None;
  gap = None;
  nodes = None;
  conflicts = None;
  milliseconds = None;
}

-- those for a plan: cost, bound and best are what it costs
abbrev pub plan_cells : ℕ → Cells
plan_cells cost = record (sized None None statuses.Optimal) {
  cost = Some cost;
  bound = Some cost;
  best = Some cost;
  gap = Some 0;
}

-- those if planning was stopped: the bound is the greater of what each plan costs at least and what was told on the way
abbrev pub open_cells : ℕ → Work → Cells
open_cells least work = record (sized None None statuses.Stopped) {
  bound = Some (max least work.bound);
  best = work.best;
  gap = option_map (λ best. gap best (max least work.bound)) work.best;
}

abbrev pub outcome_cells : Outcome → Work → Cells
outcome_cells (ThePlan plan) work = plan_cells plan.cost
outcome_cells (TooLong critical) work = sized None None statuses.Impossible
outcome_cells (TooLate job) work = sized None None statuses.Impossible
outcome_cells (NoneEnough need) work = sized None None statuses.Impossible
outcome_cells (Open least) work = open_cells least work

-- those of a row with an outcome
abbrev pub answered_cells : AnsweredRow → Cells
answered_cells row = record (outcome_cells row.outcome row.work) {
  jobs = Some row.jobs;
  resources = Some row.resources;
  deadline = Some row.deadline;
  nodes = Some row.work.nodes;
  conflicts = Some row.work.conflicts;
  milliseconds = row.work.milliseconds;
}

abbrev pub cells_of : Row → Cells
cells_of (Answered row) = answered_cells row
cells_of (Late jobs resources) = sized (Some jobs) (Some resources) statuses.Refused
cells_of Refused = sized None None statuses.Refused
cells_of Memory = sized None None statuses.Memory
cells_of NoThread = sized None None statuses.NoThread

-- a number; nothing if it is not known
abbrev pub known : Option ℕ → List ℕ
known None = []
known (Some number) = decimal number

-- the zeros before a number that make it three digits long
abbrev pub thousandths_zeros : ℕ → List ℕ
thousandths_zeros n = if nat_lt n 10 then codes "00" else (if nat_lt n 100 then codes "0" else [])

-- a time in seconds, with three digits after the point
abbrev pub time_text : ℕ → List ℕ
time_text milliseconds = decimal (milliseconds / 1000) ++ (codes "." ++ (thousandths_zeros (milliseconds % 1000) ++
    decimal (milliseconds % 1000)))

abbrev pub seconds_by : Option ℕ → List ℕ
seconds_by None = []
seconds_by (Some milliseconds) = time_text milliseconds

-- the words about a file that has no network
abbrev pub words_of : Input → List ℕ
words_of (Network p) = []
words_of (Fault words) = string_bytes words

-- the same of a case that is refused, or those about a deadline that is too late
abbrev pub fault_of : Input → Row → List ℕ
fault_of input (Answered row) = []
fault_of input (Late jobs resources) = codes "the deadline is later than 10,000,000"
fault_of input Refused = words_of input
fault_of input Memory = []
fault_of input NoThread = []

-- the last day of a deadline, if that is known and the day has a date: by its evening the project ends
abbrev pub last_day : Calendar → Option ℕ → Option (List ℕ)
last_day calendar None = None
last_day calendar (Some deadline) = last_word calendar deadline

-- the field of that day, if times are told by dates: nothing if there is none
abbrev pub day_fields : Calendar → Option ℕ → List (List ℕ)
day_fields calendar deadline = if has_dates calendar then unwrap_or (last_day calendar deadline) [] ∷ [] else []

-- the numbers that tell of a plan
abbrev pub number_fields : Cells → List (List ℕ)
number_fields cells = known cells.cost ∷ (known cells.bound ∷ (known cells.best ∷ (known cells.gap ∷ (known cells.nodes ∷
    (known cells.conflicts ∷ [])))))

-- the fields of a row with these cells
abbrev pub fields_with : Calendar → Matter → Cells → List ℕ → List (List ℕ)
fields_with calendar matter cells fault = matter.name ∷ (known cells.jobs ∷ (known cells.resources ∷ (matter.word ∷
    (known cells.deadline ∷ (day_fields calendar cells.deadline ++ (status_word cells.status ∷ (number_fields cells ++
    (seconds_by cells.milliseconds ∷ (fault ∷ [])))))))))

abbrev pub fields_by : Calendar → Matter → Row → List (List ℕ)
fields_by calendar matter row = fields_with calendar matter (cells_of row) (fault_of matter.input row)

-- the titles up to the deadline, that of the day if times are told by dates, and those behind
abbrev pub begin_titles : List (List ℕ)
begin_titles = codes "file" ∷ (codes "jobs" ∷ (codes "resources" ∷ (codes "factor" ∷ (codes "deadline" ∷ []))))

abbrev pub day_titles : Bool → List (List ℕ)
day_titles dates = if dates then codes "last day" ∷ [] else []

abbrev pub rest_titles : List (List ℕ)
rest_titles = codes "status" ∷ (codes "cost" ∷ (codes "bound" ∷ (codes "best" ∷ (codes "gap" ∷ (codes "nodes" ∷
    (codes "conflicts" ∷ (codes "seconds" ∷ (codes "fault" ∷ []))))))))

abbrev pub titles : Bool → List (List ℕ)
titles dates = begin_titles ++ (day_titles dates ++ rest_titles)

-- the first row
abbrev pub head_line : Calendar → List ℕ
head_line calendar = row_text default_writer (titles (has_dates calendar))

-- the row of a case
abbrev pub row_line : Calendar → Matter → Row → List ℕ
row_line calendar matter row = row_text default_writer (fields_by calendar matter row)
