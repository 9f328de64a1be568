-- Clauses from which the same follows.
use Rattle.std.specs.Prelude.{◌≡◌, ℕ, ◌<◌, ◌≤◌, true, false, List, length, slice_index_or, Option, None, IfSome}
use Rattle.racp_model.specs.Window.{Bounds}
use Rattle.racp_clauses.specs.Clauses.{Derived}
use Rattle.racp_clauses.specs.Inferences.{by_clause, may_have, says_more, with_inference}
use Rattle.racp_clauses.specs.Tests.{clause_at}
use Rattle.racp_clauses.specs.declared.literal.Literal.{Literal}
use Rattle.racp_clauses.specs.declared.literal.Literal.TheVariants.{AtLeast, AtMost}

-- a literal is about the same variable and side as another one, and says no more
abbrev pub IsWeaker : Literal → Literal → Type 0
IsWeaker (AtLeast x v) (AtLeast y w) = (x ≡ y) × (v ≤ w)
IsWeaker (AtMost x v) (AtMost y w) = (x ≡ y) × (w ≤ v)
IsWeaker (AtLeast x v) (AtMost y w) = ⊥
IsWeaker (AtMost x v) (AtLeast y w) = ⊥

-- two of some literals say no more than another one
pub record AreTwoWeaker (kept : List Literal) (l : Literal) : Type 0 where
  pub earlier : ℕ
  pub later : ℕ
  pub before : earlier < later
  pub place : later < length kept
  pub one : IsWeaker (slice_index_or kept earlier (AtLeast 0 0)) l
  pub other : IsWeaker (slice_index_or kept later (AtLeast 0 0)) l

-- from some literals the same follows within all bounds as from others
pub record InfersAs (short clause : List Literal) : Type 0 where
  pub same : (bounds : Bounds) → by_clause bounds short ≡ by_clause bounds clause

-- of some clauses, each with another one or none, the same follows from each such other one as from its own
pub record AreShorts (shorts : List (Option (List Literal))) (clauses : List (List Literal)) : Type 0 where
  pub same : length shorts ≡ length clauses
  pub each : (at : ℕ) → at < length clauses → IfSome (slice_index_or shorts at None) (λ short. InfersAs short (clause_at clauses at))

-- there is a literal at a place, and it may be true within bounds
pub record MayBeAt (bounds : Bounds) (ls : List Literal) (place : ℕ) : Type 0 where
  pub within : place < length ls
  pub is : may_have bounds (slice_index_or ls place (AtLeast 0 0)) ≡ true

-- and it has to be
pub record HasToBeAt (bounds : Bounds) (ls : List Literal) (place : ℕ) : Type 0 where
  pub may : MayBeAt bounds ls place
  pub has : says_more bounds (slice_index_or ls place (AtLeast 0 0)) ≡ false

-- a derivation with these bounds stays as it is by what follows from some literals
pub record AreIdle (bounds : Bounds) (ls : List Literal) : Type 0 where
  pub stays : (d : Derived) → d.bounds ≡ bounds → with_inference d (by_clause bounds ls) ≡ d
