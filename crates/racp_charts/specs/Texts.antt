-- Texts that charts are made of.
use Rattle.std.specs.Prelude.{ℕ, zero, suc, ◌*◌, ◌==◌, ◌||◌, nat_le, List, [], ◌++◌, codes, chars, encode_utf8, flat_map, if◌then◌else◌}

-- two texts one after the other; `a ⋅ b ⋅ c` is `a ⋅ (b ⋅ c)`
infixr 65 ◌⋅◌
abbrev pub ◌⋅◌ : List ℕ → List ℕ → List ℕ
text ⋅ more = text ++ more

-- what stands for a character: one that means something else in XML, or that no text in XML has, never stands for itself
abbrev pub escape : ℕ → List ℕ
escape letter =
    if letter == 38 then codes "&amp;" else (if letter == 60 then codes "&lt;" else (if letter == 62 then codes "&gt;"
    else (if letter == 34 then codes "&quot;" else (if letter == 65534 || letter == 65535 then [] else encode_utf8 letter))))

-- a text as XML writes it
unfoldable pub escaped : List ℕ → List ℕ
escaped text = flat_map escape (chars text)

-- from a power of ten on, the first of 1, 2 and 5 times it that is taken at most 12 times up to this number
abbrev pub mark_from : ℕ → ℕ → ℕ → ℕ
mark_from zero power most = power
mark_from (suc more) power most =
    if nat_le most (power * 12) then power else (if nat_le most (power * 24) then power * 2
    else (if nat_le most (power * 60) then power * 5 else mark_from more (power * 10) most))

-- how much there is from one number of an axis up to this number to the next: 1, 2 or 5 times a power of ten
unfoldable pub mark_of : ℕ → ℕ
mark_of most = mark_from 18 1 most

-- the texts at the places from 0 to before this one
abbrev pub texts_before : (ℕ → List ℕ) → ℕ → List ℕ
texts_before text zero = []
texts_before text (suc place) = texts_before text place ++ text place
