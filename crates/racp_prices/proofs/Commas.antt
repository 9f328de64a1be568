-- Numbers between commas, read one after another.
use Rattle.std.proofs.Common.{◌≡◌, refl, sym, ◌∙◌, ap, ℕ, ◌+◌, ◌<◌, ◌≤◌, List, [], ◌∷◌, ◌++◌, length, length-drop, arith, append_assoc}
use Rattle.std.specs.Prelude.{Option, Some, None, option_map, Bool, true, false, ◌&&◌, nat_le, min}
use Rattle.std.specs.List.{position_or_len, after_first, slice_split}
use Rattle.std.proofs.lemmas.Bool.{and_from, and_left, and_right, cond-true, cond-false, le-leb, lt-leb}
use Rattle.std.proofs.lemmas.List.Splits.{slice_split_first}
use Rattle.racp_text.specs.Cuts.{AreParts}
use Rattle.racp_text.specs.Numbers.{is_number, value}
use Rattle.racp_prices.specs.WantedNumbers.{number_of, before, all_numbers, is_comma, numbers_of}

-- a number of 32 bits
pub no_number : (digits : List ℕ) → is_number digits ≡ false → None ≡ number_of digits
unfolding number_of
no_number digits e = sym (cond-false (is_number digits && nat_le (value digits) 4294967295) (Some (value digits)) None (and_left (is_number digits) (nat_le (value digits) 4294967295) e))

pub number_is : (digits : List ℕ) (n : ℕ) → is_number digits ≡ true → n ≡ min (value digits) 18446744073709551615 → n ≤ 4294967295 → Some n ≡ number_of digits
unfolding number_of
number_is digits n is e l =
    let same : n ≡ value digits = omega (arith, e, l) in
    let fits : value digits ≤ 4294967295 = omega (arith, same, l) in
    ap Some same
    ∙ sym (cond-true (is_number digits && nat_le (value digits) 4294967295) (Some (value digits)) None (and_from (is_number digits) (nat_le (value digits) 4294967295) is (le-leb (value digits) 4294967295 fits)))

pub too_great : (digits : List ℕ) (n : ℕ) → n ≡ min (value digits) 18446744073709551615 → 4294967295 < n → None ≡ number_of digits
unfolding number_of
too_great digits n e l =
    let great : 4294967295 < value digits = omega (arith, e, l) in
    sym (cond-false (is_number digits && nat_le (value digits) 4294967295) (Some (value digits)) None (and_right (is_number digits) (nat_le (value digits) 4294967295) (lt-leb (value digits) 4294967295 great)))

-- a list without such an element is one part
one_part : (test : ℕ → Bool) (xs : List ℕ) → position_or_len test xs ≡ length xs → slice_split test xs ≡ xs ∷ []
one_part test [] e = refl
one_part test (x ∷ xs) e = grind (arith, e, one_part test xs)

-- the part after a cut is shorter
pub back-shorter : (test : ℕ → Bool) (bytes front back : List ℕ) → AreParts test bytes front back → length back < length bytes
back-shorter test bytes front back h = omega (arith, h.0, ap length h.2, length-drop (position_or_len test bytes + 1) bytes)

-- the numbers of what was cut, and of what has no comma
at_comma : (word front back : List ℕ) → AreParts is_comma word front back → numbers_of word ≡ before (number_of front) (numbers_of back)
unfolding numbers_of all_numbers
at_comma word front back h =
    ap all_numbers (slice_split_first is_comma word 0 h.0 ∙ (ap (λ xs. xs ∷ slice_split is_comma (after_first is_comma word)) (sym h.1) ∙ ap (λ xs. front ∷ slice_split is_comma xs) (sym h.2)))

at_end : (word : List ℕ) → position_or_len is_comma word ≡ length word → numbers_of word ≡ before (number_of word) (Some [])
unfolding numbers_of all_numbers
at_end word e = ap all_numbers (one_part is_comma word e)

-- these numbers were read, and reading goes on
abbrev pub AreRead : List ℕ → List ℕ → List ℕ → Type 0
AreRead word numbers rest = numbers_of word ≡ option_map (λ others. numbers ++ others) (numbers_of rest)

pub read_start : (word rest : List ℕ) → rest ≡ word → AreRead word [] rest
read_start word rest e = sym (front-none (numbers_of rest) ∙ ap numbers_of e)
  where
    front-none : (o : Option (List ℕ)) → option_map (λ others. [] ++ others) o ≡ o
    front-none (Some xs) = refl
    front-none None = refl

front-more : (numbers : List ℕ) (n : ℕ) (o : Option (List ℕ)) → option_map (λ others. numbers ++ others) (before (Some n) o) ≡ option_map (λ others. (numbers ++ n ∷ []) ++ others) o
front-more numbers n (Some others) = ap Some (sym (append_assoc numbers (n ∷ []) others))
front-more numbers n None = refl

pub read_step : (word numbers rest front back : List ℕ) (n : ℕ) → AreRead word numbers rest → AreParts is_comma rest front back → Some n ≡ number_of front → AreRead word (numbers ++ n ∷ []) back
read_step word numbers rest front back n h parts e =
    h ∙ ap (option_map (λ others. numbers ++ others)) (at_comma rest front back parts ∙ ap (λ o. before o (numbers_of back)) (sym e)) ∙ front-more numbers n (numbers_of back)

pub read_fault : (word numbers rest front back : List ℕ) → AreRead word numbers rest → AreParts is_comma rest front back → None ≡ number_of front → None ≡ numbers_of word
read_fault word numbers rest front back h parts e =
    sym (h ∙ ap (option_map (λ others. numbers ++ others)) (at_comma rest front back parts ∙ ap (λ o. before o (numbers_of back)) (sym e)))

pub read_end : (word numbers rest : List ℕ) (n : ℕ) → AreRead word numbers rest → position_or_len is_comma rest ≡ length rest → Some n ≡ number_of rest → Some (numbers ++ n ∷ []) ≡ numbers_of word
read_end word numbers rest n h none e =
    sym (h ∙ ap (option_map (λ others. numbers ++ others)) (at_end rest none ∙ ap (λ o. before o (Some [])) (sym e)))

pub read_end_fault : (word numbers rest : List ℕ) → AreRead word numbers rest → position_or_len is_comma rest ≡ length rest → None ≡ number_of rest → None ≡ numbers_of word
read_end_fault word numbers rest h none e =
    sym (h ∙ ap (option_map (λ others. numbers ++ others)) (at_end rest none ∙ ap (λ o. before o (Some [])) (sym e)))
