-- Clauses over bounds of variables, and when one holds (lazy clause generation, Ohrimenko, Stuckey and Codish 2009).
use Rattle.std.specs.Prelude.{◌≡◌, ℕ, ◌<◌, ◌≤◌, Bool, false, List, length, slice_index, slice_index_or, Contains}
use Rattle.racp_model.specs.Window.{Bounds}
use Rattle.racp_clauses.specs.Solutions.{Problem, IsSolution, IsWithin, values, HasPlaces}
use Rattle.racp_clauses.specs.declared.literal.Literal.{Literal}
use Rattle.racp_clauses.specs.declared.literal.Literal.TheVariants.{AtLeast, AtMost}

-- a literal is true of values: the variable is at least, or at most, so much
abbrev pub Satisfies : Literal → List ℕ → Type 0
Satisfies (AtLeast x v) vs = v ≤ slice_index vs x
Satisfies (AtMost x v) vs = slice_index vs x ≤ v

-- some literal of a clause is
abbrev pub SatisfiesSome : List Literal → List ℕ → Type 0
SatisfiesSome clause vs = (l : Literal) × Contains clause l × Satisfies l vs

-- a clause holds: some literal of it is true of each solution
abbrev pub Holds : Problem → List Literal → Type 0
Holds q clause =
    (starts capacities : List ℕ) → IsSolution q starts capacities →
    SatisfiesSome clause (values q.terms starts capacities)

-- no literal of a clause is true of values
abbrev pub SatisfiesNone : List Literal → List ℕ → Type 0
SatisfiesNone clause vs = (l : Literal) → Contains clause l → Satisfies l vs → ⊥

-- a literal is false within bounds: the variable cannot be so much, or so little
abbrev pub IsFalseWithin : Bounds → Literal → Type 0
IsFalseWithin bounds (AtLeast x v) = (x < length bounds.lower) × (slice_index bounds.upper x < v)
IsFalseWithin bounds (AtMost x v) = (x < length bounds.lower) × (v < slice_index bounds.lower x)

-- each literal of a clause is
abbrev pub AreFalseWithin : Bounds → List Literal → Type 0
AreFalseWithin bounds clause = (l : Literal) → Contains clause l → IsFalseWithin bounds l

-- no solution lies within bounds
abbrev pub IsRefuted : Problem → Bounds → Type 0
IsRefuted q bounds =
    (starts capacities : List ℕ) → IsSolution q starts capacities →
    IsWithin bounds (values q.terms starts capacities) → ⊥

-- the derivation of a clause: the bounds to which its negation has led so far, and whether nothing is left
pub record Derived : Type 0 where
  pub bounds : Bounds
  pub empty : Bool
  pub clause : List Literal

-- each solution of which no literal of the clause is true is within the bounds; and if nothing is left there is none
pub record IsDerived (q : Problem) (d : Derived) : Type 0 where
  pub places : HasPlaces q.network d.bounds
  pub left : (starts capacities : List ℕ) → IsSolution q starts capacities →
      SatisfiesNone d.clause (values q.terms starts capacities) →
      (d.empty ≡ false) × IsWithin d.bounds (values q.terms starts capacities)
