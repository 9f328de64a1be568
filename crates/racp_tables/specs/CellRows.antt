-- What rows are of the cells that were read.
use Rattle.std.specs.Prelude.{◌≡◌, ℕ, ◌+◌, ◌==◌, ◌⊎◌, Bool, not, ◌&&◌, if◌then◌else◌, nat_lt, List, [], ◌∷◌, ◌++◌, length, map, string_bytes, Option, Some, ⊤}
use Rattle.std.specs.List.{list_any}
use Rattle.jiff_core.specs.declared.civil.date.Date.{Date}
use Rattle.racp_calendar.specs.Times.{IsTimeBy, IsTimeFrom}
use Rattle.racp_calendar.specs.Written.{IsWritten}
use Rattle.racp_calendar.specs.declared.calendar.Calendar.{Calendar}
use Rattle.racp_calendar.specs.declared.calendar.Calendar.TheVariants.{Numbers, Dates}
use Rattle.racp_calendar.specs.declared.form.DateForm.{DateForm}
use Rattle.racp_calendar.specs.declared.workdays.Workdays.{Workdays}
use Rattle.racp_links.specs.Phases.{is_phase}
use Rattle.racp_tables.specs.Assigned.{all_units_named, assigned_said}
use Rattle.racp_tables.specs.Cells.{cell_of, id_said, need_at, plain}
use Rattle.racp_tables.specs.Times.{time_said}
use Rattle.racp_tables.specs.declared.columns.Columns.{Columns}
use Rattle.racp_tables.specs.declared.reading.Dating.{Dating}
use Rattle.racp_tables.specs.declared.reading.Scale.{Scale}
use Rattle.racp_tables.specs.declared.row.Row.{Row}

-- how many units a row says of the resources of columns, and then of those of a roster of names; nothing of a phase
abbrev pub needs_said : Columns → List (List ℕ) → Bool → List (List ℕ) → List (Option ℕ)
needs_said columns roster is_phase cells =
    if is_phase then []
    else (map (need_at cells) columns.resources.items ++ map (all_units_named (assigned_said (cell_of cells columns.assigned))) roster)

-- how long a row says that its task takes, which needs this: a task without duration and needs takes no time, as a phase does
abbrev pub duration_said : Columns → Bool → Scale → List (List ℕ) → List ℕ → Option ℕ
duration_said columns is_phase scale cells requests =
    if is_phase then Some 0
    else (if (length (cell_of cells columns.duration) == 0) && not (list_any (λ units. nat_lt 0 units) requests) then Some 0
    else time_said (cell_of cells columns.duration) scale 10000)

-- the time that a cell says, or another where it is empty
abbrev pub time_or : ℕ → List ℕ → Scale → Option ℕ
time_or other cell scale = if length cell == 0 then Some other else time_said cell scale 10000000

-- a time keeps the date that a cell says, in a way that dates are kept by a calendar: as the least from it on, or the greatest by it
abbrev pub IsTimeOn : Calendar → DateForm → (Workdays → Date → ℕ → Type 0) → List ℕ → ℕ → Type 0
IsTimeOn Numbers form keeps cell time = ⊥
IsTimeOn (Dates calendar) form keeps cell time = (date : Date) × IsWritten form cell date × keeps calendar.now date time

abbrev pub IsTimeOfDate : (Workdays → Date → ℕ → Type 0) → List ℕ → Dating → ℕ → Type 0
IsTimeOfDate keeps cell dating time = IsTimeOn dating.calendar dating.form keeps cell time

-- the time that a cell says: by its number, or another where it is empty, or by a date
abbrev pub IsTimeSaid : (Workdays → Date → ℕ → Type 0) → ℕ → List ℕ → Scale → Dating → ℕ → Type 0
IsTimeSaid keeps other cell scale dating time = (time_or other cell scale ≡ Some time) ⊎ IsTimeOfDate keeps cell dating time

-- a row is what its cells say, for these columns, a roster of resources that rows name, and its number among the rows
pub record IsRowOf (columns : Columns) (roster : List (List ℕ)) (is_phase : Bool) (number : ℕ) (scale : Scale) (dating : Dating) (cells : List (List ℕ)) (row : Row) : Type 0 where
  pub id : string_bytes row.id ≡ id_said cells columns.id number
  pub name : string_bytes row.name ≡ plain (cell_of cells columns.name)
  pub predecessors : string_bytes row.predecessors ≡ cell_of cells columns.predecessors
  pub successors : string_bytes row.successors ≡ cell_of cells columns.successors
  pub requests : needs_said columns roster is_phase cells ≡ map (λ units. Some units) row.requests.items
  pub duration : duration_said columns is_phase scale cells row.requests.items ≡ Some row.duration
  pub earliest : IsTimeSaid IsTimeFrom 0 (cell_of cells columns.earliest) scale dating row.earliest
  pub due : IsTimeSaid IsTimeBy 10000000 (cell_of cells columns.due) scale dating row.due

-- each of the rows is that of its cells, the first with this number; rows are parts of each other so
abbrev pub AreRowsOf : Columns → List (List ℕ) → List ℕ → Scale → Dating → ℕ → List (List (List ℕ)) → List Row → Type 0
AreRowsOf columns roster parents scale dating number [] [] = ⊤
AreRowsOf columns roster parents scale dating number [] (row ∷ rows) = ⊥
AreRowsOf columns roster parents scale dating number (cells ∷ more) [] = ⊥
AreRowsOf columns roster parents scale dating number (cells ∷ more) (row ∷ rows) =
    IsRowOf columns roster (is_phase parents number) number scale dating cells row × AreRowsOf columns roster parents scale dating (number + 1) more rows

-- rows and one more, which is that of its cells
abbrev pub IsRowAdded : Columns → List (List ℕ) → List ℕ → Scale → Dating → List (List ℕ) → List Row → List Row → Type 0
IsRowAdded columns roster parents scale dating cells old new =
    (row : Row) × (new ≡ old ++ row ∷ []) × IsRowOf columns roster (is_phase parents (length old + 1)) (length old + 1) scale dating cells row
