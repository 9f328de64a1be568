-- A row that is written place by place.
use Rattle.std.proofs.Common.{◌≡◌, ℕ, ◌+◌, ◌<◌, ◌≤◌, inl, inr, List, length, slice_index, set, arith, ap}
use Rattle.racp_model.proofs.lemmas.Lists.{at_set}

-- the places below n have their new value, and the others the old one
pub record AreWritten (n : ℕ) (f : ℕ → ℕ) (old new : List ℕ) : Type 0 where
  pub done : (q : ℕ) → q < n → slice_index new q ≡ f q
  pub rest : (q : ℕ) → n ≤ q → slice_index new q ≡ slice_index old q

-- one more
pub written-next : (n : ℕ) (f : ℕ → ℕ) (old new next : List ℕ) (v : ℕ) → AreWritten n f old new → n < length new → next ≡ set new n v → v ≡ f n → AreWritten (n + 1) f old next
written-next n f old new next v h l e is = record {
  done = λ q less. elim (at_set new n v q l) [
    | inl here ↦ omega (arith, ap (λ (xs : List ℕ). slice_index xs q) e, here.1, ap f here.0)
    | inr other ↦ omega (arith, ap (λ (xs : List ℕ). slice_index xs q) e, other.1, h.done q (omega (arith, other.0)))
  ];
  rest = λ q more. elim (at_set new n v q l) [
    | inl here ↦ absurd (omega (arith, here.0))
    | inr other ↦ omega (arith, ap (λ (xs : List ℕ). slice_index xs q) e, other.1, h.rest q (omega arith))
  ];
}
