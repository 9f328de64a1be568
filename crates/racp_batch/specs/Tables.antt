-- The table that is written.
use Rattle.std.specs.Prelude.{◌≡◌, ℕ, ◌≤◌, ◌++◌, [], ◌∷◌, Bool, true, false, List, Option, Result, Ok, Err, length, take, ⊤}
use Rattle.std.specs.Io.KnownBytes.{Appends}
use Rattle.racp_calendar.specs.declared.calendar.Calendar.{Calendar}
use Rattle.racp_batch.specs.Cases.{Matter}
use Rattle.racp_batch.specs.Rows.{IsRowOf, MayBeOpen}
use Rattle.racp_batch.specs.Lines.{head_line, row_line}
use Rattle.racp_batch.specs.declared.batch.BatchFault.{BatchFault}
use Rattle.racp_batch.specs.declared.batch.Ending.{Ending}
use Rattle.racp_batch.specs.declared.row.Row.{Row}

-- a row for each of these cases, in their order, and each is right of its case; a calendar tells the days
abbrev pub IsListed : Calendar → (may_be_open : Type 0) → List Matter → List ℕ → Type 0
IsListed calendar may_be_open [] text = text ≡ []
IsListed calendar may_be_open (matter ∷ matters) text = (row : Row) × (rest : List ℕ) × IsRowOf may_be_open matter row ×
    (text ≡ row_line calendar matter row ++ rest) × IsListed calendar may_be_open matters rest

-- the rows of so many cases, from the first on, were written since the writer held some bytes
pub record IsTold (calendar : Calendar) (may_be_open : Type 0) (cases : List Matter) (old new : Option (List ℕ)) (rows : ℕ) : Type 0 where
  pub few : rows ≤ length cases
  pub lines : List ℕ
  pub listed : IsListed calendar may_be_open (take rows cases) lines
  pub appended : Appends old new lines

-- the first row and the rows of so many cases, from the first on, were written
pub record IsTable (calendar : Calendar) (may_be_open : Type 0) (cases : List Matter) (old new : Option (List ℕ)) (rows : ℕ) : Type 0 where
  pub few : rows ≤ length cases
  pub lines : List ℕ
  pub listed : IsListed calendar may_be_open (take rows cases) lines
  pub appended : Appends old new (head_line calendar ++ lines)

-- what was written of a table that ended so, with such a limit and such a user: the rows of all cases, if it is whole, which it is
-- unless the user may ask for a stop
abbrev pub IsTableRun : Calendar → (unlimited quiet : Bool) → List Matter → Option (List ℕ) → Option (List ℕ) → Result Ending BatchFault → Type 0
IsTableRun calendar unlimited quiet cases old new (Ok ending) = IsTable calendar (MayBeOpen unlimited quiet) cases old new ending.rows ×
    (ending.is_whole ≡ true → ending.rows ≡ length cases) × (ending.is_whole ≡ false → quiet ≡ false)
IsTableRun calendar unlimited quiet cases old new (Err fault) = ⊤
