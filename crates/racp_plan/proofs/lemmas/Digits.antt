-- Numbers in decimal: the digits of a number, and the number of digits.
use Rattle.std.proofs.Common.{◌≡◌, refl, sym, ◌∙◌, ap, subst, ℕ, zero, suc, ◌^◌, ◌<◌, inl, inr, Bool, true, false, List, [], ◌∷◌, ◌++◌, length, slice_index, arith, append_assoc}
use Rattle.std.specs.Prelude.{Option, Some, None, min, not, ◌&&◌, ◌||◌, ◌==◌, nat_lt, nat_le, bytes_eq}
use Rattle.std.specs.List.{list_all, list_any, position_or_len}
use Rattle.std.specs.Char.{is_ascii_digit}
use Rattle.std.specs.Fmt.{decimal}
use Rattle.std.specs.Str.Parse.{AllDigits, digits_value}
use Rattle.std.proofs.lemmas.Bool.{cases_Bool, and_parts, leb-true, le-leb, true≢false, ne_eqb, eq-eqb, ltb-false}
use Rattle.std.proofs.lemmas.Bool.Decides.{same_from_decides, Decides-like, Decides-eqb}
use Rattle.std.proofs.lemmas.Slice.Eq.{bytes_eq-Decides}
use Rattle.std.proofs.lemmas.Fmt.{decimal_is_IsNumeral, decimal-digits_value, decimal_nonempty, first_decimal, decimal_digit}
use Rattle.std.proofs.lemmas.Str.Parse.{IsDigitsTest, IsNumeralModel, numerals_by_value, digit_from_value}
use Rattle.racp_text.specs.Numbers.{IsCapped, is_number, value}
use Rattle.racp_text.specs.Cuts.{AreParts}
use Rattle.racp_plan.specs.PlanReading.{has_zero_in_front, is_decimal}
use Rattle.racp_plan.specs.Steps.{after_words}
use Rattle.racp_plan.proofs.lemmas.Fronts.{parts_of, whole_of, words_before, words_cases}

-- digits, one by one or all
tells_digits : IsDigitsTest (λ ds. list_all is_ascii_digit ds ≡ true)
tells_digits = record {
  empty = refl;
  parts = λ c cs e. let k = and_parts (is_ascii_digit c) (list_all is_ascii_digit cs) e in let m = and_parts (nat_le 48 c) (nat_le c 57) k.0 in ((leb-true 48 c m.0, leb-true c 57 m.1), k.1);
  more = λ c cs k e i. (le-leb 48 c k.0 i && le-leb c 57 k.1 i) && e i;
}

are_digits : IsNumeralModel (λ ds. list_all is_ascii_digit ds ≡ true) (digits_value 10)
are_digits = numerals_by_value (λ ds. list_all is_ascii_digit ds ≡ true) tells_digits

and_false : (b : Bool) → (b && false) ≡ false
and_false true = refl
and_false false = refl

-- a zero in front makes no number of a plan, and where none is, it is a number as any other
pub zero_in_front : (digits : List ℕ) → has_zero_in_front digits ≡ true → is_decimal digits ≡ false
zero_in_front digits e = ap (λ b. is_number digits && not b) e ∙ and_false (is_number digits)

pub no_zero_in_front : (digits : List ℕ) (r : Option ℕ) → has_zero_in_front digits ≡ false → IsCapped is_number digits r → IsCapped is_decimal digits r
no_zero_in_front digits (Some n) e h = ((λ i. h.0 i && not (e i)), h.1)
no_zero_in_front digits None e h = λ i. h i && not (e i)

-- the digits of a number are a number, and stand for it
no_zero_first : (n : ℕ) → n < 2 ^ 64 → (nat_lt 1 (length (decimal n)) && (slice_index (decimal n) 0 == 48)) ≡ false
no_zero_first zero fits = ap (λ (digits : List ℕ). nat_lt 1 (length digits) && (slice_index digits 0 == 48)) (decimal_digit 0 (omega arith))
no_zero_first (suc n) fits =
    let first : 48 < slice_index (decimal (suc n)) 0 = first_decimal (suc n) (omega arith) fits in
    let other : (slice_index (decimal (suc n)) 0 == 48) ≡ false = ne_eqb (slice_index (decimal (suc n)) 0) 48 (λ e. omega (arith, e, first)) in
    ap (λ b. nat_lt 1 (length (decimal (suc n))) && b) other ∙ and_false (nat_lt 1 (length (decimal (suc n))))

pub decimal-is : (n : ℕ) → n < 2 ^ 64 → is_decimal (decimal n) ≡ true
decimal-is n fits =
    let some : (length (decimal n) == 0) ≡ false = ne_eqb (length (decimal n)) 0 (λ e. omega (arith, e, decimal_nonempty n fits)) in
    let all : list_all is_ascii_digit (decimal n) ≡ true = are_digits.from (decimal n) (decimal_is_IsNumeral n fits).0.1 in
    λ i. not (some i) && all i && not (no_zero_first n fits i)

pub value-decimal : (n : ℕ) → n < 2 ^ 64 → value (decimal n) ≡ n
value-decimal n fits = (decimal_is_IsNumeral n fits).1

some_digit : (n : ℕ) → not (n == 0) ≡ true → 0 < n
some_digit zero e = absurd (true≢false (sym e))
some_digit (suc n) e = omega arith

alone : (n first : ℕ) → 0 < n → not (nat_lt 1 n && (first == 48)) ≡ true → first ≡ 48 → n ≡ 1
alone n first some e zero_first = elim (cases_Bool (nat_lt 1 n)) [
  | inl t ↦
      let both : (nat_lt 1 n && (first == 48)) ≡ true = (λ i. t i && eq-eqb first 48 zero_first i) in
      absurd (true≢false (sym e ∙ ap not both))
  | inr f ↦ omega (arith, ltb-false 1 n f)
]

-- a number is the digits of what it stands for
pub decimal-value : (digits : List ℕ) → is_decimal digits ≡ true → value digits < 2 ^ 64 → decimal (value digits) ≡ digits
decimal-value digits is fits =
    let parts = and_parts (not (length digits == 0) && list_all is_ascii_digit digits) _ is in
    let front = and_parts (not (length digits == 0)) (list_all is_ascii_digit digits) parts.0 in
    let some : 0 < length digits = some_digit (length digits) front.0 in
    decimal-digits_value are_digits digits front.1 some (alone (length digits) (slice_index digits 0) some parts.1) fits

-- whether digits are those of a number, by what they stand for
pub spelled : (digits : List ℕ) (n wanted : ℕ) → wanted < 2 ^ 32 → is_decimal digits ≡ true → n ≡ min (value digits) 18446744073709551615 → (n == wanted) ≡ bytes_eq digits (decimal wanted)
spelled digits n wanted fits is capped =
    let there : n ≡ wanted → digits ≡ decimal wanted = λ same.
    let value_is : value digits ≡ wanted = omega arith in
    sym (decimal-value digits is (omega arith)) ∙ ap decimal value_is in
    let back : digits ≡ decimal wanted → n ≡ wanted = λ same.
    let value_is : value digits ≡ wanted = ap value same ∙ value-decimal wanted (omega arith) in
    omega arith in
    same_from_decides (n == wanted) (bytes_eq digits (decimal wanted)) (Decides-like (n == wanted) there back (Decides-eqb n wanted)) (bytes_eq-Decides digits (decimal wanted))

pub not_spelled : (digits : List ℕ) (wanted : ℕ) → wanted < 2 ^ 32 → is_decimal digits ≡ false → false ≡ bytes_eq digits (decimal wanted)
not_spelled digits wanted fits is = elim (cases_Bool (bytes_eq digits (decimal wanted))) [
  | inl t ↦ absurd (true≢false (sym (decimal-is wanted (omega arith)) ∙ ap is_decimal (sym ((bytes_eq-Decides digits (decimal wanted)).0 t)) ∙ is))
  | inr f ↦ sym f
]

-- a byte below the digits is none of them
pub no_digit : (byte : ℕ) (digits : List ℕ) → byte < 48 → AllDigits 10 digits → list_any (λ b. b == byte) digits ≡ false
no_digit byte [] small all = refl
no_digit byte (c ∷ digits) small all =
    let other : (c == byte) ≡ false = ne_eqb c byte (λ e. omega (arith, e, digit_from_value c all.0)) in
    let rest : list_any (λ b. b == byte) digits ≡ false = no_digit byte digits small all.1 in
    λ i. other i || rest i

pub not_in_digits : (byte : ℕ) (digits : List ℕ) → byte < 48 → is_decimal digits ≡ true → list_any (λ b. b == byte) digits ≡ false
not_in_digits byte digits small is =
    let parts = and_parts (not (length digits == 0) && list_all is_ascii_digit digits) _ is in
    let all = (and_parts (not (length digits == 0)) (list_all is_ascii_digit digits) parts.0).1 in
    no_digit byte digits small (are_digits.to digits all)

pub not_in_decimal : (byte n : ℕ) → byte < 48 → n < 2 ^ 64 → list_any (λ b. b == byte) (decimal n) ≡ false
not_in_decimal byte n small fits = no_digit byte (decimal n) small (decimal_is_IsNumeral n fits).0.1

-- the parts of a number, a blank and the rest
number_parts : (bytes rest : List ℕ) (wanted : ℕ) → wanted < 2 ^ 32 → bytes ≡ (decimal wanted ++ 32 ∷ []) ++ rest → AreParts (λ b. b == 32) bytes (decimal wanted) rest
number_parts bytes rest wanted fits e =
    subst (λ (whole : List ℕ). AreParts (λ b. b == 32) whole (decimal wanted) rest) (sym (e ∙ append_assoc (decimal wanted) (32 ∷ []) rest))
    (parts_of (λ b. b == 32) (decimal wanted) 32 rest (not_in_decimal 32 wanted (omega arith) (omega arith)) refl)

-- what stands after a number and a blank
pub number_none : (bytes : List ℕ) (wanted : ℕ) → wanted < 2 ^ 32 → position_or_len (λ b. b == 32) bytes ≡ length bytes → None ≡ after_words (decimal wanted ++ 32 ∷ []) bytes
number_none bytes wanted fits e = elim (words_cases (decimal wanted ++ 32 ∷ []) bytes) [
  | inl none ↦ sym none
  | inr some ↦
      let place = (number_parts bytes some.0 wanted fits some.1).0 in
      absurd (omega (arith, e, place))
]

pub number_some : (bytes digits rest : List ℕ) (wanted : ℕ) → AreParts (λ b. b == 32) bytes digits rest → bytes_eq digits (decimal wanted) ≡ true → Some rest ≡ after_words (decimal wanted ++ 32 ∷ []) bytes
number_some bytes digits rest wanted h e =
    let same : digits ≡ decimal wanted = (bytes_eq-Decides digits (decimal wanted)).0 e in
    let whole : bytes ≡ (decimal wanted ++ 32 ∷ []) ++ rest = whole_of 32 bytes digits rest h ∙ ap (λ ds. ds ++ 32 ∷ rest) same ∙ sym (append_assoc (decimal wanted) (32 ∷ []) rest) in
    sym (words_before (decimal wanted ++ 32 ∷ []) rest) ∙ ap (after_words (decimal wanted ++ 32 ∷ [])) (sym whole)

pub number_other : (bytes digits rest : List ℕ) (wanted : ℕ) → wanted < 2 ^ 32 → AreParts (λ b. b == 32) bytes digits rest → bytes_eq digits (decimal wanted) ≡ false → None ≡ after_words (decimal wanted ++ 32 ∷ []) bytes
number_other bytes digits rest wanted fits h e = elim (words_cases (decimal wanted ++ 32 ∷ []) bytes) [
  | inl none ↦ sym none
  | inr some ↦
      let front : digits ≡ decimal wanted = h.1 ∙ sym (number_parts bytes some.0 wanted fits some.1).1 in
      absurd (true≢false (sym ((bytes_eq-Decides digits (decimal wanted)).1 front) ∙ e))
]
