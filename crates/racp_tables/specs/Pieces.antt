-- Pieces of texts.
use Rattle.std.specs.Prelude.{ℕ, ◌-◌, ◌==◌, Bool, not, cond, nat_lt, List, length, take, drop, slice_index, Option, Some, None}
use Rattle.std.specs.List.{before_first, after_first, position_or_len, slice_split, suffix_len}

-- the parts of a text before and behind the first of these letters, if it has one
abbrev pub parts_at : ℕ → List ℕ → Option (List ℕ × List ℕ)
parts_at letter text =
    cond (nat_lt (position_or_len (λ b. b == letter) text) (length text))
    (Some (before_first (λ b. b == letter) text, after_first (λ b. b == letter) text)) None

-- what stands between these letters
abbrev pub between : ℕ → List ℕ → List (List ℕ)
between letter text = slice_split (λ b. b == letter) text

-- a text without these letters at its end
abbrev pub without_end : ℕ → List ℕ → List ℕ
without_end letter text = take (length text - suffix_len (λ b. b == letter) text) text

-- a list from the first member on that passes a test
abbrev pub from_first : (ℕ → Bool) → List ℕ → List ℕ
from_first test letters = drop (position_or_len test letters) letters

-- the parts of a text before and behind the last of these letters, if it has one
abbrev pub parts_at_last : ℕ → List ℕ → Option (List ℕ × List ℕ)
parts_at_last letter text =
    cond (nat_lt (suffix_len (λ b. not (b == letter)) text) (length text))
    (Some (take (length text - suffix_len (λ b. not (b == letter)) text - 1) text, drop (length text - suffix_len (λ b. not (b == letter)) text) text)) None

-- a text without its last letter, if it is this one
abbrev pub without_last : ℕ → List ℕ → Option (List ℕ)
without_last letter text = cond (slice_index text (length text - 1) == letter) (Some (take (length text - 1) text)) None
