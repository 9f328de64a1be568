-- What jobs and resources are called.
use Rattle.std.specs.Prelude.{ℕ, ◌+◌, ◌==◌, ◌||◌, ◌&&◌, ◌++◌, ◌∷◌, Bool, List, [], Option, Some, None, drop, fold, length, slice_index_or, if◌then◌else◌, map, filter, nat_le, nat_lt, not, chars, encode_utf8_all}
use Rattle.std.specs.Char.{is_control}
use Rattle.std.specs.List.{list_all}
use Rattle.std.specs.Str.Lines.{lines}
use Rattle.racp_show.specs.Lines.{is_name}

-- a character that is not printed: a control character, or a byte order mark
abbrev pub is_unprinted : ℕ → Bool
is_unprinted letter = is_control letter || letter == 65279

-- a text without these
abbrev pub printed : List ℕ → List ℕ
printed text = encode_utf8_all (filter (λ letter. not (is_unprinted letter)) (chars text))

-- the lines of a text, as they are printed
abbrev pub printed_lines : List ℕ → List (List ℕ)
printed_lines text = map printed (lines text)

-- a name that is none
abbrev pub is_empty : List ℕ → Bool
is_empty name = length name == 0

-- a line behind so many names counts as one: it is a name, and they are fewer than 528, which 512 jobs and 16 resources have,
-- or they are as many, and it is not empty
abbrev pub counts : ℕ → List ℕ → Bool
counts before line =
    is_name line && (nat_lt before (512 + 16) || (before == 512 + 16 && not (is_empty line)))

-- names, and one more if a line counts
abbrev pub with_name : List (List ℕ) → List ℕ → List (List ℕ)
with_name names line = if counts (length names) line then names ++ line ∷ [] else names

-- the names of a text, one a line
abbrev pub names_of : List ℕ → List (List ℕ)
names_of text = fold with_name [] (printed_lines text)

-- there are no names, or this many, and behind them none
abbrev pub are_names_for : List (List ℕ) → ℕ → Bool
are_names_for names count =
    list_all is_empty names || (nat_le count (length names) && list_all is_empty (drop count names))

-- the name at a place, or none if there is none or it is empty
abbrev pub name_at : List (List ℕ) → ℕ → Option (List ℕ)
name_at names place =
    if length (slice_index_or names place []) == 0 then None else Some (slice_index_or names place [])
