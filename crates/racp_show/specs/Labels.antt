-- What stands at the left of a line.
use Rattle.std.specs.Prelude.{ℕ, ◌≤◌, List, [], ◌∷◌, ◌++◌, Option, Some, None, String, false, nat_lt, take, chars, codes, encode_utf8, string_bytes, if◌then◌else◌}
use Rattle.std.specs.Fmt.{decimal}
use Rattle.std.specs.Global.{Global}
use Rattle.unicode_width.specs.Width.{str_width}

-- a label takes at most this many columns of a terminal
abbrev pub IsWithinColumns : ℕ → String Global → Type 0
IsWithinColumns most label = str_width false (chars (string_bytes label)) ≤ most

-- a beginning of a label, and behind it as many of these characters as stand before the first that takes it past this many columns
abbrev pub fitting : ℕ → List ℕ → List ℕ → List ℕ
fitting most label [] = label
fitting most label (letter ∷ letters) =
    if nat_lt most (str_width false (chars (label ++ encode_utf8 letter))) then label
    else fitting most (label ++ encode_utf8 letter) letters

-- as much of a text as this many columns take, and at most 96 characters
abbrev pub cut : ℕ → List ℕ → List ℕ
cut most text = fitting most [] (take 96 (chars text))

-- a name, or if there is none a word and a number, cut to this many columns
abbrev pub label_text : ℕ → Option (List ℕ) → List ℕ → ℕ → List ℕ
label_text most (Some name) word number = cut most name
label_text most None word number = cut most (word ++ codes " " ++ decimal number)
