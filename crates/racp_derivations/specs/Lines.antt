-- What a line of a derivation text says.
use Rattle.std.specs.Prelude.{ℕ, ◌==◌, ◌&&◌, Bool, true, false, not, nat_le, if◌then◌else◌, List, [], ◌∷◌, ◌++◌, length, slice_get, bytes_eq, codes, position, Option, Some, None}
use Rattle.racp_model.specs.Project.{Project, number, place}
use Rattle.racp_clauses.specs.Solutions.{units_place, cost_place}
use Rattle.racp_clauses.specs.declared.literal.Literal.{Literal}
use Rattle.racp_clauses.specs.declared.literal.Literal.TheVariants.{AtLeast, AtMost}
use Rattle.racp_derivations.specs.Words.{◌>>=◌, most_number, first_word, behind_word, number_of, place_of}
use Rattle.racp_derivations.specs.declared.line.Line.{Line}
use Rattle.racp_derivations.specs.declared.line.Line.TheVariants.{Suppose, Take, Holds, Keep}
use Rattle.racp_derivations.specs.declared.line.Step.{Step}
use Rattle.racp_derivations.specs.declared.line.Step.TheVariants.{Pair, TimeTable, Energy, Request, Prices, Budget, Earlier}

-- the variable at place x is at least, or at most, so much, by a sign
unfoldable pub bound_by : List ℕ → ℕ → ℕ → Option Literal
bound_by sign x v =
    if bytes_eq sign (codes ">=") then Some (AtLeast x v)
    else if bytes_eq sign (codes "<=") then Some (AtMost x v)
    else None

-- `>= V` or `<= V`, of the variable at place x
unfoldable pub bound_on : ℕ → List ℕ → Option Literal
bound_on x rest = do
  v ← number_of (behind_word rest)
  bound_by (first_word rest) x v

-- `start J` and a bound
unfoldable pub start_on : Project → List ℕ → Option Literal
start_on p rest = do
  j ← place_of (length p.jobs) (first_word rest)
  bound_on j (behind_word rest)

-- `units K` and a bound
unfoldable pub units_on : Project → List ℕ → Option Literal
units_on p rest = do
  k ← place_of p.resources (first_word rest)
  bound_on (units_place p k) (behind_word rest)

-- the literal that a word and the rest of a line say
unfoldable pub literal_of : Project → List ℕ → List ℕ → Option Literal
literal_of p word rest =
    if bytes_eq word (codes "start") then start_on p rest
    else if bytes_eq word (codes "units") then units_on p rest
    else if bytes_eq word (codes "cost") then bound_on (cost_place p) rest
    else None

-- whether a pair of the precedence relation is that of the jobs at these places
abbrev pub is_pair : ℕ → ℕ → ℕ × ℕ → Bool
is_pair i j pair = (pair.0 == number i) && (pair.1 == number j)

-- where it stands in the relation, if it does
abbrev pub pair_at : Project → ℕ → ℕ → Option ℕ
pair_at p i j = position (is_pair i j) p.arcs

-- `pair I J`
unfoldable pub pair_on : Project → List ℕ → Option Step
pair_on p rest = do
  i ← place_of (length p.jobs) (first_word rest)
  j ← place_of (length p.jobs) (behind_word rest)
  at ← pair_at p i j
  Some (Pair at)

-- `energy K A B`
unfoldable pub energy_on : Project → List ℕ → Option Step
energy_on p rest = do
  k ← place_of p.resources (first_word rest)
  a ← number_of (first_word (behind_word rest))
  b ← number_of (behind_word (behind_word rest))
  Some (Energy k a b)

-- `times J K A B`
unfoldable pub times_on : Project → List ℕ → Option Step
times_on p rest = do
  j ← place_of (length p.jobs) (first_word rest)
  k ← place_of p.resources (first_word (behind_word rest))
  a ← number_of (first_word (behind_word (behind_word rest)))
  b ← number_of (behind_word (behind_word (behind_word rest)))
  Some (TimeTable j k a b)

-- `request J K`
unfoldable pub request_on : Project → List ℕ → Option Step
request_on p rest = do
  j ← place_of (length p.jobs) (first_word rest)
  k ← place_of p.resources (behind_word rest)
  Some (Request j k)

-- `budget K`
unfoldable pub budget_on : Project → List ℕ → Option Step
budget_on p rest = do
  k ← place_of p.resources rest
  Some (Budget k)

-- `clause N`
unfoldable pub earlier_on : List ℕ → Option Step
earlier_on rest = do
  at ← place_of most_number rest
  Some (Earlier at)

-- the step that a word and the rest of a line say
unfoldable pub step_of : Project → List ℕ → List ℕ → Option Step
step_of p word rest =
    if bytes_eq word (codes "pair") then pair_on p rest
    else if bytes_eq word (codes "times") then times_on p rest
    else if bytes_eq word (codes "energy") then energy_on p rest
    else if bytes_eq word (codes "request") then request_on p rest
    else if bytes_eq word (codes "budget") then budget_on p rest
    else if bytes_eq word (codes "clause") then earlier_on rest
    else None

-- a literal if there is one, or else a step
abbrev pub literal_or_step : Option Literal → Option Step → Option Line
literal_or_step (Some l) step = Some (Suppose l)
literal_or_step None (Some s) = Some (Take s)
literal_or_step None None = None

-- what a line says
unfoldable pub line_of : Project → List ℕ → Option Line
line_of p line =
    if bytes_eq line (codes "holds") then Some Holds
    else if bytes_eq line (codes "keep") then Some Keep
    else if bytes_eq line (codes "prices") then Some (Take Prices)
    else literal_or_step (literal_of p (first_word line) (behind_word line)) (step_of p (first_word line) (behind_word line))

-- whether a step is by an earlier clause
abbrev pub is_by_clause : Step → Bool
is_by_clause (Pair at) = false
is_by_clause (TimeTable j k a b) = false
is_by_clause (Energy k a b) = false
is_by_clause (Request j k) = false
is_by_clause Prices = false
is_by_clause (Budget k) = false
is_by_clause (Earlier at) = true

-- a line that is spelled out has a number if it says a literal, or a step that is by no clause
abbrev pub has_number : Line → Bool
has_number (Suppose l) = true
has_number (Take s) = not (is_by_clause s)
has_number Holds = false
has_number Keep = false

-- the lines that have numbers, after one that is spelled out
abbrev pub with_line : List Line → Line → List Line
with_line lines line = if has_number line then lines ++ line ∷ [] else lines

-- the line that has a number, from 1 on
abbrev pub line_at : List Line → ℕ → Option Line
line_at lines n = if nat_le 1 n then slice_get lines (place n) else None
