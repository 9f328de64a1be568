-- A number in a line ends where its digits end, so that a line says one number.
use Rattle.std.proofs.Common.{◌≡◌, ℕ, ◌^◌, ◌<◌, List, [], ◌∷◌, ◌++◌, refl, sym, ap, ◌∙◌, arith}
use Rattle.std.specs.Fmt.{decimal}
use Rattle.std.specs.Str.Parse.{AllDigits, digits_value}
use Rattle.std.specs.Char.{digit_value}
use Rattle.std.proofs.lemmas.Fmt.{decimal_is_IsNumeral}

-- digits up to a letter that is none are the same where the whole lists are
pub same_digits : (ds es us vs : List ℕ) (x : ℕ) → AllDigits 10 ds → AllDigits 10 es → (digit_value x < 10 → ⊥) → ds ++ x ∷ us ≡ es ++ x ∷ vs → (ds ≡ es) × (us ≡ vs)
same_digits [] [] us vs x p q none e = let rest : us ≡ vs = cc in (refl, rest)
same_digits [] (b ∷ es) us vs x p q none e = let same : b ≡ x = cc in absurd (none (rw same at q.0))
same_digits (a ∷ ds) [] us vs x p q none e = let same : a ≡ x = cc in absurd (none (rw same at p.0))
same_digits (a ∷ ds) (b ∷ es) us vs x p q none e =
    let head : a ≡ b = cc in
    let tail : ds ++ x ∷ us ≡ es ++ x ∷ vs = cc in
    let rest = same_digits ds es us vs x p.1 q.1 none tail in
    (ap (λ (d : ℕ). d ∷ ds) head ∙ ap (λ (more : List ℕ). b ∷ more) rest.0, rest.1)

-- a number up to a letter that is no digit is the same where the whole lists are
pub same_number : (m n : ℕ) (us vs : List ℕ) (x : ℕ) → m < 2 ^ 64 → n < 2 ^ 64 → (digit_value x < 10 → ⊥) → decimal m ++ x ∷ us ≡ decimal n ++ x ∷ vs → (m ≡ n) × (us ≡ vs)
same_number m n us vs x fits_m fits_n none e =
    let of_m = decimal_is_IsNumeral m fits_m in
    let of_n = decimal_is_IsNumeral n fits_n in
    let rest = same_digits (decimal m) (decimal n) us vs x of_m.0.1 of_n.0.1 none e in
    (sym of_m.1 ∙ ap (digits_value 10) rest.0 ∙ of_n.1, rest.1)

-- a line feed and a blank are no digits
pub feed_is_no_digit : digit_value 10 < 10 → ⊥
feed_is_no_digit h = omega arith

pub blank_is_no_digit : digit_value 32 < 10 → ⊥
blank_is_no_digit h = omega arith
