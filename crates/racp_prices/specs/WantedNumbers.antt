-- Whole numbers between commas.
use Rattle.std.specs.Prelude.{ℕ, ◌==◌, ◌&&◌, Bool, List, [], ◌∷◌, Option, Some, None, nat_le, if◌then◌else◌}
use Rattle.std.specs.List.{slice_split}
use Rattle.racp_text.specs.Numbers.{is_number, value}

-- the number that decimal digits are, if 32 bits hold it
unfoldable pub number_of : List ℕ → Option ℕ
number_of digits = if is_number digits && nat_le (value digits) 4294967295 then Some (value digits) else None

-- a number before others, if all are there
abbrev pub before : Option ℕ → Option (List ℕ) → Option (List ℕ)
before (Some number) (Some numbers) = Some (number ∷ numbers)
before _ _ = None

-- the numbers that some words are, if each is one
unfoldable pub all_numbers : List (List ℕ) → Option (List ℕ)
all_numbers [] = Some []
all_numbers (word ∷ words) = before (number_of word) (all_numbers words)

abbrev pub is_comma : ℕ → Bool
is_comma b = b == 44

-- the numbers that stand between the commas of a word, if each is one
unfoldable pub numbers_of : List ℕ → Option (List ℕ)
numbers_of word = all_numbers (slice_split is_comma word)
