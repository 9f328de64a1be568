-- Rows of bounds that are kept as changes of others.
use Rattle.std.proofs.Common.{◌≡◌, ◌∙◌, inl, inr, ℕ, ◌+◌, ◌<◌, ◌≤◌, List, [], ◌∷◌, ◌++◌, length, slice_index, set, arith, refl, subst, ap}
use Rattle.std.proofs.lemmas.Bool.{cases_lt}
use Rattle.std.proofs.lemmas.List.{ext_get_or, length-set}
use Rattle.racp_model.proofs.lemmas.Lists.{at_set}
use Rattle.racp_trees.specs.Rows.{changed}
use Rattle.racp_trees.specs.declared.shared_row.Change.{Change}

-- one change more
changed_more : (row : List ℕ) (changes : List Change) (change : Change) → changed row (changes ++ change ∷ []) ≡ set (changed row changes) change.place change.bound
changed_more row [] change = refl
changed_more row (other ∷ changes) change = changed_more (set row other.place other.bound) changes change

-- changes that lead from some bounds to others in the first i places
pub record AreChanges (from to : List ℕ) (i : ℕ) (changes : List Change) : Type 0 where
  pub places : length (changed from changes) ≡ length to
  pub done : (j : ℕ) → j < i → slice_index (changed from changes) j ≡ slice_index to j
  pub left : (j : ℕ) → i ≤ j → slice_index (changed from changes) j ≡ slice_index from j

pub changes_first : (from to : List ℕ) → length from ≡ length to → AreChanges from to 0 []
changes_first from to same = record { places = same; done = λ j l. absurd (omega (arith, l)); left = λ j l. refl }

-- the bounds at place i are equal
pub changes_same : (from to : List ℕ) (i : ℕ) (changes : List Change) → AreChanges from to i changes → slice_index from i ≡ slice_index to i → AreChanges from to (i + 1) changes
changes_same from to i changes h same = record {
  places = h.places;
  done = λ j l. elim (cases_lt j i) [
    | inl before ↦ h.done j before
    | inr last ↦ let at : i ≡ j = omega (arith, l, last) in subst (λ k. slice_index (changed from changes) k ≡ slice_index to k) at (h.left i (omega arith) ∙ same)
  ];
  left = λ j l. h.left j (omega (arith, l));
}

-- or there is one change more
pub changes_more : (from to : List ℕ) (i : ℕ) (changes : List Change) (change : Change) → AreChanges from to i changes → i < length to → change.place ≡ i → change.bound ≡ slice_index to i → AreChanges from to (i + 1) (changes ++ change ∷ [])
changes_more from to i changes change h l at is = record {
  places = ap (λ (xs : List ℕ). length xs) same ∙ (length-set now change.place change.bound ∙ h.places);
  done = λ j m. ap (λ (xs : List ℕ). slice_index xs j) same ∙ elim (at_set now change.place change.bound j inside) [
    | inl here ↦ here.1 ∙ (is ∙ ap (λ k. slice_index to k) (omega (arith, here.0, at)))
    | inr other ↦ elim (cases_lt j i) [
      | inl before ↦ other.1 ∙ h.done j before
      | inr last ↦ absurd (other.0 (omega (arith, m, last, at)))
    ]
  ];
  left = λ j m. ap (λ (xs : List ℕ). slice_index xs j) same ∙ elim (at_set now change.place change.bound j inside) [
    | inl here ↦ absurd (omega (arith, here.0, at, m))
    | inr other ↦ other.1 ∙ h.left j (omega (arith, m))
  ];
}
  where
    now : List ℕ
    now = changed from changes

    same : changed from (changes ++ change ∷ []) ≡ set now change.place change.bound
    same = changed_more from changes change

    inside : change.place < length now
    inside = omega (arith, l, at, h.places)

-- all bounds
pub changes_all : (from to : List ℕ) (i : ℕ) (changes : List Change) → AreChanges from to i changes → length to ≤ i → changed from changes ≡ to
changes_all from to i changes h all = ext_get_or 0 (changed from changes) to h.places (λ j l. h.done j (omega (arith, l, all, h.places)))
