-- Numbers that are cut to the most there may be, one place after another.
use Rattle.std.proofs.Common.{◌≡◌, refl, sym, ◌∙◌, ap₂, ℕ, suc, ◌+◌, ◌<◌, ◌≤◌, min, List, [], ◌∷◌, map, set, length, arith, inl, inr, ◌⊎◌, ◌≢◌, length-set}
use Rattle.std.specs.Prelude.{slice_index}
use Rattle.std.proofs.Math.Seq.{map-set_same}
use Rattle.racp_model.proofs.lemmas.Lists.{at_set}

-- all numbers below place i are cut, and none is cut differently from what it was
pub record AreCutBelow (most : ℕ) (start : List ℕ) (i : ℕ) (now : List ℕ) : Type 0 where
  pub same : map (min most) now ≡ map (min most) start
  pub below : (k : ℕ) → k < i → k < length now → slice_index now k ≤ most

pub cut_start : (most : ℕ) (start : List ℕ) → AreCutBelow most start 0 start
cut_start most start = record { same = refl; below = λ k l _. absurd (omega (arith, l)) }

pub cut_step : (most : ℕ) (start : List ℕ) (i : ℕ) (now : List ℕ) → i < length now → AreCutBelow most start i now →
    AreCutBelow most start (i + 1) (set now i (min most (slice_index now i)))
cut_step most start i now l h = record {
  same = map-set_same (min most) now i (min most (slice_index now i)) 0 (min_twice (slice_index now i)) ∙ h.same;
  below = λ k under within. here k under within (at_set now i (min most (slice_index now i)) k l);
}
  where
    min_twice : (x : ℕ) → min most (min most x) ≡ min most x
    min_twice x = omega arith

    here : (k : ℕ) → k < i + 1 → k < length (set now i (min most (slice_index now i))) →
        ((k ≡ i) × (slice_index (set now i (min most (slice_index now i))) k ≡ min most (slice_index now i))) ⊎ ((k ≢ i) × (slice_index (set now i (min most (slice_index now i))) k ≡ slice_index now k)) →
        slice_index (set now i (min most (slice_index now i))) k ≤ most
    here k under within (inl e) = rw e.1 (omega arith)
    here k under within (inr e) = rw e.1 (h.below k (omega (arith, under, e.0)) (rw (length-set now i (min most (slice_index now i))) at within))

all_cut : (most : ℕ) (xs : List ℕ) → ((k : ℕ) → k < length xs → slice_index xs k ≤ most) → map (min most) xs ≡ xs
all_cut most [] h = refl
all_cut most (x ∷ xs) h = ap₂ (λ y ys. y ∷ ys) (head (h 0 (omega arith))) (all_cut most xs (λ k l. h (suc k) (omega (arith, l))))
  where
    head : x ≤ most → min most x ≡ x
    head l = omega (arith, l)

pub cut_end : (most : ℕ) (start : List ℕ) (i : ℕ) (now : List ℕ) → length now ≤ i → AreCutBelow most start i now → now ≡ map (min most) start
cut_end most start i now l h = sym (all_cut most now (λ k under. h.below k (omega (arith, under, l)) under)) ∙ h.same
