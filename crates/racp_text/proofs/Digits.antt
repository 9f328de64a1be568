-- The number that digits spell, digit by digit.
use Rattle.std.proofs.Common.{◌≡◌, sym, ◌∙◌, ap, ℕ, ◌+◌, ◌-◌, ◌*◌, ◌<◌, ◌≤◌, inl, inr, true, List, length, take, slice_index, arith, refl, [], ◌∷◌, ◌++◌, length-append}
use Rattle.std.specs.Prelude.{min}
use Rattle.std.specs.List.{list_all}
use Rattle.std.specs.Char.{digit_value, is_ascii_digit}
use Rattle.std.proofs.lemmas.Bool.{cases_Bool, and_parts, leb-true, true≢false}
use Rattle.std.proofs.lemmas.List.{take_all, take_at, get_or-append_right}
use Rattle.std.proofs.lemmas.Int.Digits.{digits_value_more}
use Rattle.std.proofs.lemmas.List.Folds.{list_all_at}
use Rattle.std.proofs.lemmas.Str.{digit_value_digit}
use Rattle.racp_text.specs.Numbers.{value}
use Rattle.racp_text.specs.Laws.{NumbersAreDecimal}

-- a byte of a number is a digit
pub digit_at : (digits : List ℕ) (k : ℕ) → k < length digits → list_all is_ascii_digit digits ≡ true → (48 ≤ slice_index digits k) × (slice_index digits k ≤ 57)
digit_at digits k l all = elim (cases_Bool (is_ascii_digit (slice_index digits k))) [
  | inl t ↦ let parts = and_parts _ _ t in (leb-true 48 (slice_index digits k) parts.0, leb-true (slice_index digits k) 57 parts.1)
  | inr f ↦ absurd (true≢false (sym all ∙ list_all_at is_ascii_digit digits k 0 l f))
]

-- one digit more
pub value-more : (digits : List ℕ) (k : ℕ) → k < length digits → list_all is_ascii_digit digits ≡ true → value (take (k + 1) digits) ≡ value (take k digits) * 10 + (slice_index digits k - 48)
value-more digits k l all =
    let range = digit_at digits k l all in
    omega (arith, digits_value_more 10 digits k l, digit_value_digit (slice_index digits k) range, range.0)

-- the same, where all numbers are cut to a bound
pub capped-more : (digits : List ℕ) (k number raised sum : ℕ) → k < length digits → list_all is_ascii_digit digits ≡ true → number ≡ min (value (take k digits)) 18446744073709551615 → raised ≡ min (number * 10) 18446744073709551615 → sum ≡ min (raised + (slice_index digits k - 48)) 18446744073709551615 → sum ≡ min (value (take (k + 1) digits)) 18446744073709551615
capped-more digits k number raised sum l all n r s = omega (arith, n, r, s, value-more digits k l all)

-- a digit at the end
pub digit_after : (digits : List ℕ) (x : ℕ) → value (digits ++ x ∷ []) ≡ value digits * 10 + digit_value x
digit_after digits x =
    let whole : take (length digits + 1) (digits ++ x ∷ []) ≡ digits ++ x ∷ [] = take_all _ (digits ++ x ∷ []) (omega (arith, length-append digits (x ∷ []))) in
    let front : take (length digits) (digits ++ x ∷ []) ≡ digits = take_at digits (x ∷ []) (length digits) refl in
    let last : slice_index (digits ++ x ∷ []) (length digits) ≡ x =
    let zero : length digits - length digits ≡ 0 = omega arith in
    get_or-append_right digits (x ∷ []) (length digits) (length digits) 0 refl (omega arith) ∙ ap (slice_index (x ∷ [])) zero in
    let more : value (take (length digits + 1) (digits ++ x ∷ [])) ≡ value (take (length digits) (digits ++ x ∷ [])) * 10 + digit_value (slice_index (digits ++ x ∷ []) (length digits)) = digits_value_more 10 (digits ++ x ∷ []) (length digits) (omega (arith, length-append digits (x ∷ []))) in
    sym (ap value whole) ∙ more ∙ ap (λ v. v * 10 + digit_value (slice_index (digits ++ x ∷ []) (length digits))) (ap value front) ∙ ap (λ d. value digits * 10 + digit_value d) last

pub zero_before : (digits : List ℕ) → value (48 ∷ digits) ≡ value digits
zero_before digits = refl

pub decimal_numbers : NumbersAreDecimal
decimal_numbers digits digit small =
    (omega (arith, digit_after digits (48 + digit), digit_value_digit (48 + digit) (omega arith, omega (arith, small))), zero_before digits)
