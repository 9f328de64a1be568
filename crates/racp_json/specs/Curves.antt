-- What the lines of a curve, of a least deadline and of early starts say.
use Rattle.std.specs.Prelude.{◌≡◌, ℕ, List, [], Option, Some, None, length, map, drop, codes, slice_index_or, nat_lt, if◌then◌else◌}
use Rattle.racp_json.specs.Lines.{number_at, rows_in}
use Rattle.racp_json.specs.declared.curve.Step.{Step}
use Rattle.racp_json.specs.declared.early.Early.{Early}

-- the deadline, the cost and the capacities of a step
abbrev pub row_of : Step → ℕ × ℕ × List ℕ
row_of step = (step.deadline, step.cost, step.capacities.items)

-- the same of a row of numbers
abbrev pub step_in : List ℕ → ℕ × ℕ × List ℕ
step_in row = (number_at 0 row, number_at 1 row, drop 2 row)

-- a step for each line of the text that begins with `deadline`
abbrev pub AreStepsIn : List ℕ → List Step → Type 0
AreStepsIn text steps = map row_of steps ≡ map step_in (rows_in (codes "deadline") text)

-- the number of the line that begins with `critical`, and the second number of each that begins with `start`
pub record IsEarlyIn (text : List ℕ) (early : Early) : Type 0 where
  pub critical_is : early.critical ≡ number_at 0 (slice_index_or (rows_in (codes "critical") text) 0 [])
  pub starts_are : early.starts.items ≡ map (number_at 1) (rows_in (codes "start") text)

-- the second of some numbers, if there is one
abbrev pub known_in : List ℕ → Option ℕ
known_in numbers = if nat_lt 1 (length numbers) then Some (number_at 1 numbers) else None
