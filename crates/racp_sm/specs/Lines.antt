-- The lines and words of a text.
use Rattle.std.specs.Prelude.{ℕ, ◌+◌, ◌==◌, ◌||◌, Bool, List, [], ◌∷◌, length, map, filter, nat_lt, bytes_eq, if◌then◌else◌}
use Rattle.std.specs.List.{slice_split, before_first}
use Rattle.std.specs.Str.Lines.{strip_carriage_return}
use lib.Pointwise.{pointwise}
use Rattle.racp_text.specs.Cuts.{is_line_feed}

-- a line: its number, from 1, and its bytes without its end
pub record Line : Type 0 where
  pub number : ℕ
  pub bytes : List ℕ

-- a word: the number of its line, and its bytes
pub record Word : Type 0 where
  pub line : ℕ
  pub bytes : List ℕ

-- the bytes that end a text and separate words
abbrev pub is_end : ℕ → Bool
is_end b = b == 26

abbrev pub is_blank : ℕ → Bool
is_blank b = (b == 32) || (b == 9)

-- the pieces that are lines: all but a last one that is empty
abbrev pub line_pieces : List (List ℕ) → List (List ℕ)
line_pieces [] = []
line_pieces (piece ∷ []) = if length piece == 0 then [] else piece ∷ []
line_pieces (piece ∷ (next ∷ more)) = piece ∷ line_pieces (next ∷ more)

-- lines with these numbers from n on; a carriage return at the end of a line is dropped
abbrev pub numbered : ℕ → List (List ℕ) → List Line
numbered n [] = []
numbered n (piece ∷ more) = record { number = n; bytes = strip_carriage_return piece } ∷ numbered (n + 1) more

-- the lines of a text, which ends before its first byte 0x1A
abbrev pub lines_of : List ℕ → List Line
lines_of text = numbered 1 (line_pieces (slice_split is_line_feed (before_first is_end text)))

-- the words of some bytes: the longest runs without blanks and tabs
abbrev pub words_in : List ℕ → List (List ℕ)
words_in bytes = filter (λ word. nat_lt 0 (length word)) (slice_split is_blank bytes)

-- the words of a line
abbrev pub words_of : Line → List Word
words_of line = map (λ bytes. record { line = line.number; bytes = bytes }) (words_in line.bytes)

-- whether a word is this one, letter by letter
abbrev pub is_word : List ℕ → List ℕ → Bool
is_word = bytes_eq

-- whether a line's words are exactly these
abbrev pub has_words : List (List ℕ) → Line → Bool
has_words names line = pointwise is_word (words_in line.bytes) names
