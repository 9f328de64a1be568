-- The lines of an answer: their words and their numbers, which stand between blanks.
use Rattle.std.specs.Prelude.{ℕ, ◌==◌, Bool, List, [], ◌∷◌, map, filter, flat_map, min, slice_index_or, if◌then◌else◌}
use Rattle.std.specs.List.{slice_split, starts_with}
use Rattle.std.specs.Str.Lines.{lines}
use Rattle.racp_text.specs.Numbers.{is_number, value}

-- what stands between the blanks of a line
abbrev pub parts : List ℕ → List (List ℕ)
parts line = slice_split (λ byte. byte == 32) line

-- the number that a word is, or 2^64 - 1 if that is less; none if it is no number
abbrev pub number_of : List ℕ → List ℕ
number_of word = if is_number word then min (value word) 18446744073709551615 ∷ [] else []

-- the word itself if it is no number
abbrev pub word_of : List ℕ → List (List ℕ)
word_of word = if is_number word then [] else word ∷ []

-- the numbers of a line, in their order
abbrev pub numbers_in : List ℕ → List ℕ
numbers_in line = flat_map number_of (parts line)

-- the words of a line that are no numbers, in their order
abbrev pub words_in : List ℕ → List (List ℕ)
words_in line = flat_map word_of (parts line)

-- a line begins with these letters
abbrev pub begins_with : List ℕ → List ℕ → Bool
begins_with letters line = starts_with (λ a b. a == b) line letters

-- the numbers of each line of a text that begins with these letters
abbrev pub rows_in : List ℕ → List ℕ → List (List ℕ)
rows_in letters text = map numbers_in (filter (begins_with letters) (lines text))

-- the number at a place, or 0 if there is none
abbrev pub number_at : ℕ → List ℕ → ℕ
number_at place row = slice_index_or row place 0
