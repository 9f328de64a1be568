-- Numbers in decimal.
use Rattle.std.specs.Prelude.{◌≡◌, ℕ, ◌==◌, ◌&&◌, not, Bool, true, false, List, length, min, Option, Some, None}
use Rattle.std.specs.List.{list_all}
use Rattle.std.specs.Char.{is_ascii_digit}
use Rattle.std.specs.Str.Parse.{digits_value}

-- a number is a word of decimal digits, one or more
abbrev pub is_number : List ℕ → Bool
is_number bytes = not (length bytes == 0) && list_all is_ascii_digit bytes

-- the number that digits stand for
abbrev pub value : List ℕ → ℕ
value digits = digits_value 10 digits

-- the number that a word stands for, or 2^64 - 1 if it is greater; none if the word does not pass the test
abbrev pub IsCapped : (List ℕ → Bool) → List ℕ → Option ℕ → Type 0
IsCapped test word (Some number) = (test word ≡ true) × (number ≡ min (value word) 18446744073709551615)
IsCapped test word None = test word ≡ false
