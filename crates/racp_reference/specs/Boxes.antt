-- Contracts of private functions: the vectors of a box, in lexicographic order.
use Rattle.std.specs.Prelude.{◌≡◌, ℕ, ◌<◌, ◌≤◌, List, length, slice_index}
use Rattle.racp_model.specs.Terms.{IsLexBefore}
use Rattle.racp_model.specs.Plan.{IsLeast}

-- no lower bound is above the upper one
abbrev pub IsBox : List ℕ → List ℕ → Type 0
IsBox lower upper = (i : ℕ) → i < length lower → slice_index lower i ≤ slice_index upper i

-- a vector of the box of these bounds
pub record IsInBox (lower upper vector : List ℕ) : Type 0 where
  pub lower_places : length lower ≡ length vector
  pub upper_places : length upper ≡ length vector
  pub above : (i : ℕ) → i < length vector → slice_index lower i ≤ slice_index vector i
  pub below : (i : ℕ) → i < length vector → slice_index vector i ≤ slice_index upper i

-- a vector of the box that is lexicographically greater than another
pub record IsAfter (lower upper vector after : List ℕ) : Type 0 where
  pub within : IsInBox lower upper after
  pub greater : IsLexBefore vector after

-- the vector of the box that comes next after one
abbrev pub IsNext : List ℕ → List ℕ → List ℕ → List ℕ → Type 0
IsNext lower upper vector = IsLeast IsLexBefore (IsAfter lower upper vector)

-- no vector of the box comes after this one
abbrev pub IsLast : List ℕ → List ℕ → List ℕ → Type 0
IsLast lower upper vector = (after : List ℕ) → IsAfter lower upper vector after → ⊥
