-- What a rule infers from bounds, and what becomes of them.
use Rattle.std.specs.Prelude.{⊤, ◌≡◌, ◌≢◌, ℕ, ◌+◌, ◌-◌, ◌<◌, ◌||◌, ◌&&◌, Bool, true, filter, nat_lt, nat_le, if◌then◌else◌, List, [], ◌∷◌, ◌++◌, length, slice_index, slice_index_or, set}
use Rattle.racp_model.specs.Project.{Project}
use Rattle.racp_model.specs.Terms.{Terms}
use Rattle.racp_model.specs.Window.{Bounds}
use Rattle.racp_clauses.specs.Solutions.{Problem, IsSchedule, IsSolution, IsWithin, values}
use Rattle.racp_clauses.specs.Clauses.{Satisfies, SatisfiesNone, IsFalseWithin, Derived}
use Rattle.racp_clauses.specs.declared.literal.Literal.{Literal}
use Rattle.racp_clauses.specs.declared.literal.Literal.TheVariants.{AtLeast, AtMost}
use Rattle.racp_clauses.specs.declared.inference.Inference.{Inference}
use Rattle.racp_clauses.specs.declared.inference.Inference.TheVariants.{Nothing, Narrow, Close}

-- what an inference says of values: nothing, that a literal is true of them, or that there are none
abbrev pub Allows : Inference → List ℕ → Type 0
Allows Nothing vs = ⊤
Allows (Narrow l) vs = Satisfies l vs
Allows Close vs = ⊥

-- an inference follows from bounds: it allows each schedule whose values are within them
abbrev pub Follows : Project → Terms → Bounds → Inference → Type 0
Follows p terms bounds inference =
    (starts capacities : List ℕ) → IsSchedule p starts capacities → IsWithin bounds (values terms starts capacities) →
    Allows inference (values terms starts capacities)

-- it follows in a derivation: it allows each solution within the bounds of which no literal of the clause is true
abbrev pub FollowsIn : Problem → Derived → Inference → Type 0
FollowsIn q d inference =
    (starts capacities : List ℕ) → IsSolution q starts capacities →
    SatisfiesNone d.clause (values q.terms starts capacities) →
    IsWithin d.bounds (values q.terms starts capacities) → Allows inference (values q.terms starts capacities)

-- whether something within bounds may have a literal: not where the variable cannot be so much, or so little
abbrev pub may_have : Bounds → Literal → Bool
may_have bounds (AtLeast x v) = nat_le (length bounds.lower) x || nat_le v (slice_index bounds.upper x)
may_have bounds (AtMost x v) = nat_le (length bounds.lower) x || nat_le (slice_index bounds.lower x) v

-- whether a literal says more than bounds do
abbrev pub says_more : Bounds → Literal → Bool
says_more bounds (AtLeast x v) = nat_lt x (length bounds.lower) && nat_lt (slice_index bounds.lower x) v
says_more bounds (AtMost x v) = nat_lt x (length bounds.lower) && nat_lt v (slice_index bounds.upper x)

-- bounds that are moved to a literal: the variable is at least, or at most, so much
abbrev pub moved_bounds : Bounds → Literal → Bounds
moved_bounds bounds (AtLeast x v) = record bounds { lower = set bounds.lower x v }
moved_bounds bounds (AtMost x v) = record bounds { upper = set bounds.upper x v }

-- bounds that are met with a literal: they are moved to it where it says more and something may have it
abbrev pub met_bounds : Bounds → Literal → Bounds
met_bounds bounds l = if may_have bounds l && says_more bounds l then moved_bounds bounds l else bounds

-- a derivation that goes on by an inference
abbrev pub with_inference : Derived → Inference → Derived
with_inference d Nothing = d
with_inference d (Narrow l) = record {
  bounds = met_bounds d.bounds l;
  empty = if may_have d.bounds l then d.empty else true;
  clause = d.clause;
}
with_inference d Close = record { bounds = d.bounds; empty = true; clause = d.clause }

-- what follows where a literal is not true
abbrev pub negation : Literal → Inference
negation (AtLeast x v) = if nat_lt 0 v then Narrow (AtMost x (v - 1)) else Close
negation (AtMost x v) = if nat_lt v 18446744073709551615 then Narrow (AtLeast x (v + 1)) else Nothing

-- a derivation with a literal more in the clause
abbrev pub with_literal : Derived → Literal → Derived
with_literal d l = record { bounds = d.bounds; empty = d.empty; clause = d.clause ++ l ∷ [] }

-- the literal at a place of a clause is false within bounds
abbrev pub IsFalseAt : Bounds → List Literal → ℕ → Type 0
IsFalseAt bounds clause i = IsFalseWithin bounds (slice_index_or clause i (AtLeast 0 0))

-- of the first n literals of a clause, the one at place i is this one, and the only one that is not false within bounds
pub record IsOnlyOpen (bounds : Bounds) (clause : List Literal) (n : ℕ) (l : Literal) (i : ℕ) : Type 0 where
  pub place : i < n
  pub is : slice_index_or clause i (AtLeast 0 0) ≡ l
  pub not_false : IsFalseWithin bounds l → ⊥
  pub others : (j : ℕ) → j < n → j ≢ i → IsFalseAt bounds clause j

-- two of them are not false
pub record AreTwoOpen (bounds : Bounds) (clause : List Literal) (n i j : ℕ) : Type 0 where
  pub before : i < j
  pub place : j < n
  pub one : IsFalseAt bounds clause i → ⊥
  pub other : IsFalseAt bounds clause j → ⊥

-- what follows where one of the first n literals of a clause is true: nothing is left if all are false within bounds,
-- the only one is true if all others are false, and nothing is known if two are not
abbrev pub IsOfClause : Bounds → List Literal → ℕ → Inference → Type 0
IsOfClause bounds clause n Close = (i : ℕ) → i < n → IsFalseAt bounds clause i
IsOfClause bounds clause n (Narrow l) = (i : ℕ) × IsOnlyOpen bounds clause n l i
IsOfClause bounds clause n Nothing = (i : ℕ) × (j : ℕ) × AreTwoOpen bounds clause n i j

-- the literals of a clause that are not false within bounds
abbrev pub open_literals : Bounds → List Literal → List Literal
open_literals bounds clause = filter (may_have bounds) clause

-- what follows if one of these is true: nothing is left without one, a single one is true, and of two nothing is known
abbrev pub of_open : List Literal → Inference
of_open [] = Close
of_open (l ∷ []) = Narrow l
of_open (l ∷ m ∷ more) = Nothing

-- what follows from a clause
abbrev pub by_clause : Bounds → List Literal → Inference
by_clause bounds clause = of_open (open_literals bounds clause)
