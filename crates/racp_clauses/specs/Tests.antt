-- Which literals and clauses leave out what is less.
use Rattle.std.specs.Prelude.{◌≡◌, ◌⊎◌, ℕ, ◌<◌, ◌≤◌, List, [], length, slice_index, slice_index_or, Contains, Option, Some, None}
use Rattle.racp_model.specs.Project.{Project}
use Rattle.racp_model.specs.Window.{Bounds}
use Rattle.racp_clauses.specs.Solutions.{cost_place}
use Rattle.racp_clauses.specs.Clauses.{SatisfiesSome}
use Rattle.racp_clauses.specs.declared.literal.Literal.{Literal}
use Rattle.racp_clauses.specs.declared.literal.Literal.TheVariants.{AtLeast, AtMost}
use Rattle.racp_clauses.specs.Least.{turn, AreLessBy}

-- there is a variable at place y, and it comes before the one at place x
abbrev pub IsEarlier : Project → ℕ → ℕ → Type 0
IsEarlier p x y = (y ≤ cost_place p) × (turn p y < turn p x)

-- that the variable at place y is at least v is false of these values, and it comes before the one at place x; or it is
-- that one, and v is no less than its value
abbrev pub IsLowerOut : Project → ℕ → List ℕ → ℕ → ℕ → Type 0
IsLowerOut p x vs y v = ((y ≡ x) × (slice_index vs y ≤ v)) ⊎ (IsEarlier p x y × (slice_index vs y < v))

-- that it is at most v is false of them, and it comes before
abbrev pub IsUpperOut : Project → ℕ → List ℕ → ℕ → ℕ → Type 0
IsUpperOut p x vs y v = IsEarlier p x y × (v < slice_index vs y)

-- a literal that is so is false of all values that are less than these by the variable at place x
abbrev pub IsOut : Project → ℕ → List ℕ → Literal → Type 0
IsOut p x vs (AtLeast y v) = IsLowerOut p x vs y v
IsOut p x vs (AtMost y v) = IsUpperOut p x vs y v

-- each literal of a clause is so
abbrev pub IsAllOut : Project → ℕ → List ℕ → List Literal → Type 0
IsAllOut p x vs clause = (l : Literal) → Contains clause l → IsOut p x vs l

-- a clause is false of all values that are less
abbrev pub LeavesOut : Project → ℕ → List ℕ → List Literal → Type 0
LeavesOut p x vs clause = (less : List ℕ) → AreLessBy p x vs less → SatisfiesSome clause less → ⊥

-- a clause of a list, by its place
abbrev pub clause_at : List (List Literal) → ℕ → List Literal
clause_at clauses at = slice_index_or clauses at []

-- for each variable of the first so many, in turn, the root bounds keep it from being less, or a clause does, the same
-- as for the one before or one behind that
pub record AreAllOut (p : Project) (root : Bounds) (vs : List ℕ) (turns : ℕ) (clauses : List (List Literal)) : Type 0 where
  pub at : ℕ → ℕ
  pub rises : (s t : ℕ) → s ≤ t → t < turns → at s ≤ at t
  pub out : (x : ℕ) → x ≤ cost_place p → turn p x < turns → (slice_index vs x ≤ slice_index root.lower x) ⊎
      ((at (turn p x) < length clauses) × IsAllOut p x vs (clause_at clauses (at (turn p x))))

-- the first clause, from a place on, of which each literal is out; or there is none
abbrev pub IsNextOut : Project → ℕ → List ℕ → List (List Literal) → ℕ → Option ℕ → Type 0
IsNextOut p x vs clauses from (Some at) =
    (j : ℕ) → from ≤ j → j < length clauses → IsAllOut p x vs (clause_at clauses j) → at ≤ j
IsNextOut p x vs clauses from None = (j : ℕ) → from ≤ j → j < length clauses → IsAllOut p x vs (clause_at clauses j) → ⊥

-- the place of the variable before which so many come
pub record IsPlaceOf (p : Project) (t x : ℕ) : Type 0 where
  pub place : x ≤ cost_place p
  pub has : turn p x ≡ t
  pub only : (y : ℕ) → y ≤ cost_place p → turn p y ≡ t → y ≡ x
