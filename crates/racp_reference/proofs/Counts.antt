-- How many vectors of a box are left after one: fewer after each step, so that looking at all of them ends.
use Rattle.std.proofs.Common.{◌≡◌, ℕ, zero, suc, ◌+◌, ◌-◌, ◌*◌, ◌<◌, ◌≤◌, inl, inr, List, length, slice_index, arith, refl, sym}
use Rattle.std.proofs.Math.Nat.{mul-le-mul_right}
use Rattle.std.proofs.lemmas.Bool.{cases_lt}
use Rattle.racp_model.specs.Terms.{IsLexBefore}
use Rattle.racp_model.proofs.lemmas.Orders.{HasFirstPlace, first_from_lex}
use Rattle.racp_reference.specs.Boxes.{IsInBox}

-- how many choices of the first n places come after that of the vector
unfoldable pub left_below : List ℕ → List ℕ → List ℕ → ℕ → ℕ
left_below lower upper vector zero = 0
left_below lower upper vector (suc n) = left_below lower upper vector n * suc (slice_index upper n - slice_index lower n) + (slice_index upper n - slice_index vector n)

-- how many vectors of the box come after one
abbrev pub left : List ℕ → List ℕ → List ℕ → ℕ
left lower upper vector = left_below lower upper vector (length lower)

-- as many where the places are the same
pub left-same : (lower upper a b : List ℕ) (n : ℕ) → ((q : ℕ) → q < n → slice_index a q ≡ slice_index b q) → left_below lower upper a n ≡ left_below lower upper b n
unfolding left_below
left-same lower upper a b zero h = omega arith
left-same lower upper a b (suc n) h =
    rw (left-same lower upper a b n (λ q l. h q (omega arith)), h n (omega arith)) refl

-- one more place: fewer choices of the places before it leave fewer in all
pub fewer_step : (a b w x y : ℕ) → a < b → x < w → a * w + x < b * w + y
fewer_step a b w x y less small = omega (arith, mul-le-mul_right {m = suc a} {n = b} w less)

-- fewer from the first place that differs on
pub left-fewer : (lower upper a b : List ℕ) → IsInBox lower upper a → IsInBox lower upper b → (k : HasFirstPlace a b) → (n : ℕ) → k.0 < n → n ≤ length a →
    left_below lower upper b n < left_below lower upper a n
unfolding left_below
left-fewer lower upper a b box other k zero l m = absurd (omega arith)
left-fewer lower upper a b box other k (suc n) l m = elim (cases_lt k.0 n) [
  | inl after ↦
      fewer_step (left_below lower upper b n) (left_below lower upper a n) (suc (slice_index upper n - slice_index lower n)) (slice_index upper n - slice_index b n) (slice_index upper n - slice_index a n)
      (left-fewer lower upper a b box other k n after (omega arith))
      (omega (arith, other.above n (omega (arith, box.upper_places, other.upper_places))))
  | inr here ↦
      let e : k.0 ≡ n = omega arith in
      rw (left-same lower upper b a n (λ q o. sym (k.2 q (omega arith))))
      (omega (arith, rw e at k.3, other.below n (omega (arith, box.upper_places, other.upper_places))))
]

-- fewer are left after a vector that comes later
pub fewer_left : (lower upper a b : List ℕ) → IsInBox lower upper a → IsInBox lower upper b → IsLexBefore a b → left lower upper b < left lower upper a
fewer_left lower upper a b box other before =
    let k = first_from_lex a b (omega (arith, box.upper_places, other.upper_places)) before in
    left-fewer lower upper a b box other k (length lower) (omega (arith, k.1, box.lower_places)) (omega (arith, box.lower_places))
