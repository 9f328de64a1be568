-- What a line of a names file tells: a name, or how the jobs below it are shown.
use Rattle.std.specs.Prelude.{ℕ, ◌-◌, ◌==◌, ◌&&◌, ◌||◌, Bool, List, [], ◌∷◌, bytes_eq, codes, if◌then◌else◌, length, not, slice_index}
use Rattle.std.specs.Str.{trim, trim_end}

-- what stands behind the `#` with which a line begins, and how many these are
abbrev pub behind : List ℕ → List ℕ
behind [] = []
behind (byte ∷ bytes) = if byte == 35 then behind bytes else byte ∷ bytes

abbrev pub hashes : List ℕ → ℕ
hashes line = length line - length (behind line)

-- the title that stands there
abbrev pub title_of : List ℕ → List ℕ
title_of line = trim (behind line)

-- the jobs below wait
abbrev pub is_wait : List ℕ → Bool
is_wait line = bytes_eq (trim_end line) (codes "#wait")

-- phases end: there is no title
abbrev pub is_end : List ℕ → Bool
is_end line = not (hashes line == 0) && length (title_of line) == 0

-- a phase begins: there is a title, behind a blank
abbrev pub is_heading : List ℕ → Bool
is_heading line =
    not (hashes line == 0) && (slice_index (behind line) 0 == 32 && not (length (title_of line) == 0))

-- each other line is a name
abbrev pub is_name : List ℕ → Bool
is_name line = not (is_wait line || (is_end line || is_heading line))
