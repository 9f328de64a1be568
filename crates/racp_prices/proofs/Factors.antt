-- Decimal digits, at most nine of them, and the numbers that they are.
use Rattle.std.proofs.Common.{◌≡◌, sym, ◌∙◌, ap, ap₂, ℕ, ◌+◌, ◌-◌, ◌*◌, ◌^◌, ◌<◌, ◌≤◌, List, [], ◌∷◌, length, arith, subst, zero-lt-suc, mul-lt-mul_of_pos_right}
use Rattle.std.specs.Prelude.{Option, Some, None, IfSome, true, not, ◌==◌, ◌&&◌, nat_le, min}
use Rattle.std.specs.List.{list_all, position_or_len, before_first, after_first}
use Rattle.std.specs.Char.{is_ascii_digit, digit_value}
use Rattle.std.specs.Str.Parse.{AllDigits}
use Rattle.std.proofs.lemmas.Bool.{and_parts, and_from, and_left, and_right, cond-true, cond-false, leb-true, le-leb, lt-leb, lt-ltb, le-ltb}
use Rattle.std.proofs.lemmas.Int.Digits.{digits_value-lt}
use Rattle.std.proofs.lemmas.Nat.{pow-add}
use Rattle.std.proofs.lemmas.Str.{digit_value_digit}
use Rattle.std.proofs.Math.Nat.{one-le-pow, pow-le-pow_right}
use Rattle.racp_text.specs.Cuts.{AreParts}
use Rattle.racp_text.specs.Numbers.{IsCapped, is_number, value}
use Rattle.racp_prices.specs.Factors.{short_number, whole_billionths, part_billionths, sum_of, is_point, billionths_of}

digit_small : (c : ℕ) → is_ascii_digit c ≡ true → digit_value c < 10
digit_small c e =
    let parts = and_parts (nat_le 48 c) (nat_le c 57) e in
    omega (arith, leb-true c 57 parts.1, digit_value_digit c (leb-true 48 c parts.0, leb-true c 57 parts.1))

all_digits : (digits : List ℕ) → list_all is_ascii_digit digits ≡ true → AllDigits 10 digits
all_digits [] e = tt
all_digits (c ∷ cs) e = let parts = and_parts (is_ascii_digit c) (list_all is_ascii_digit cs) e in (digit_small c parts.0, all_digits cs parts.1)

value-small : (digits : List ℕ) → is_number digits ≡ true → value digits < 10 ^ length digits
value-small digits e = digits_value-lt 10 digits (all_digits digits (and_parts (not (length digits == 0)) (list_all is_ascii_digit digits) e).1)

power_small : (n : ℕ) → n ≤ 9 → 10 ^ n ≤ 1000000000
power_small n l = pow-le-pow_right (zero-lt-suc 9) l

-- what is read of at most nine bytes
short_same : (digits : List ℕ) (n : ℕ) → is_number digits ≡ true → n ≡ min (value digits) 18446744073709551615 → length digits ≤ 9 → n ≡ value digits
short_same digits n is e l = omega (arith, e, value-small digits is, power_small (length digits) l)

pub short_is : (digits : List ℕ) (r : Option ℕ) → length digits ≤ 9 → IsCapped is_number digits r → r ≡ short_number digits
unfolding short_number
short_is digits (Some n) l h =
    ap Some (short_same digits n h.0 h.1 l)
    ∙ sym (cond-true (is_number digits && nat_le (length digits) 9) (Some (value digits)) None (and_from (is_number digits) (nat_le (length digits) 9) h.0 (le-leb (length digits) 9 l)))
short_is digits None l h = sym (cond-false (is_number digits && nat_le (length digits) 9) (Some (value digits)) None (and_left (is_number digits) (nat_le (length digits) 9) h))

pub too_long : (digits : List ℕ) → 9 < length digits → None ≡ short_number digits
unfolding short_number
too_long digits l =
    sym (cond-false (is_number digits && nat_le (length digits) 9) (Some (value digits)) None (and_right (is_number digits) (nat_le (length digits) 9) (lt-leb (length digits) 9 l)))

pub places : (digits : List ℕ) (r : Option ℕ) → length digits ≤ 9 → IsCapped is_number digits r → IfSome r (λ x. x < 10 ^ length digits)
places digits (Some n) l h = omega (arith, h.1, value-small digits h.0)
places digits None l h = tt

pub small : (digits : List ℕ) (r : Option ℕ) → length digits ≤ 9 → IsCapped is_number digits r → IfSome r (λ x. x < 1000000000)
small digits (Some n) l h = omega (arith, h.1, value-small digits h.0, power_small (length digits) l)
small digits None l h = tt

-- digits behind the point are less than one
pub part_small : (n x : ℕ) → n ≤ 9 → x < 10 ^ n → x * 10 ^ (9 - n) < 1000000000
part_small n x l h =
    let nine : n + (9 - n) ≡ 9 = omega (arith, l) in
    let whole : 10 ^ n * 10 ^ (9 - n) ≡ 1000000000 = sym (pow-add 10 n (9 - n)) ∙ ap (λ k. 10 ^ k) nine in
    let below : x * 10 ^ (9 - n) < 10 ^ n * 10 ^ (9 - n) = mul-lt-mul_of_pos_right h (one-le-pow (9 - n) 10 (zero-lt-suc 9)) in
    let P : ℕ → Type 0 = λ k. x * 10 ^ (9 - n) < k in
    subst P whole below

-- the number of a word that has a point, and of one that has none
pub with_point : (word front back : List ℕ) (whole part r : Option ℕ) → AreParts is_point word front back → whole ≡ whole_billionths front → part ≡ part_billionths back → r ≡ sum_of whole part → r ≡ billionths_of word
unfolding billionths_of
with_point word front back whole part r parts w p e =
    let fronts : whole ≡ whole_billionths (before_first is_point word) = w ∙ ap whole_billionths parts.1 in
    let backs : part ≡ part_billionths (after_first is_point word) = p ∙ ap part_billionths parts.2 in
    e
    ∙ ap₂ sum_of fronts backs
    ∙ sym (cond-true _ (sum_of (whole_billionths (before_first is_point word)) (part_billionths (after_first is_point word))) (whole_billionths word) (lt-ltb (position_or_len is_point word) (length word) parts.0))

pub without_point : (word : List ℕ) (r : Option ℕ) → position_or_len is_point word ≡ length word → r ≡ whole_billionths word → r ≡ billionths_of word
unfolding billionths_of
without_point word r e is =
    is
    ∙ sym (cond-false _ (sum_of (whole_billionths (before_first is_point word)) (part_billionths (after_first is_point word))) (whole_billionths word) (le-ltb (position_or_len is_point word) (length word) (omega (arith, e))))
