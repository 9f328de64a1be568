-- What words say as numbers.
use Rattle.std.specs.Prelude.{ℕ, ◌+◌, ◌*◌, ◌/◌, ◌%◌, ◌==◌, Bool, true, ◌&&◌, ◌||◌, if◌then◌else◌, nat_le, min, List, [], ◌∷◌, map, length, chars, encode_utf8_all, Option, Some, None}
use Rattle.std.specs.List.{concat, list_all}
use Rattle.std.specs.Char.{is_whitespace}
use Rattle.racp_text.specs.Numbers.{is_number, value}
use Rattle.racp_tables.specs.Pieces.{between, parts_at}
use Rattle.racp_tables.specs.declared.amount.Amount.{Amount}
use Rattle.racp_tables.specs.declared.amount.Amount.TheVariants.{Hundredths, Ambiguous, Nothing}

-- counting ends at 2^64 - 1, far above each limit
abbrev pub capped : ℕ → ℕ
capped n = min n 18446744073709551615

-- the number that a word of digits says
abbrev pub whole_number : List ℕ → Option ℕ
whole_number word = if is_number word then Some (capped (value word)) else None

-- so many whole ones and hundredths
abbrev pub so_many : ℕ → ℕ → Amount
so_many ones hundredths = Hundredths (capped (ones * 100 + hundredths))

-- a number with these digits before its mark and so many digits behind it: with three it could be thousands
abbrev pub with_decimals : Option ℕ → Option ℕ → ℕ → Amount
with_decimals None part digits = Nothing
with_decimals (Some ones) None digits = Nothing
with_decimals (Some ones) (Some part) digits =
    if digits == 1 then so_many ones (part * 10)
    else (if digits == 2 then so_many ones part else (if digits == 3 then Ambiguous else Nothing))

-- a whole number, or else something other
abbrev pub number_or : Option ℕ → Amount → Amount
number_or (Some ones) other = so_many ones 0
number_or None other = other

-- a number of these two parts, or else something other
abbrev pub decimal_or : Option (List ℕ × List ℕ) → Amount → Amount
decimal_or (Some parts) other = with_decimals (whole_number parts.0) (whole_number parts.1) (length parts.1)
decimal_or None other = other

-- whether a letter may stand before three digits: an apostrophe or a blank
abbrev pub is_mark : ℕ → Bool
is_mark letter = (letter == 39) || ((letter == 0x2019) || is_whitespace letter)

-- a word with an apostrophe in place of each such letter
abbrev pub one_marked : List ℕ → List ℕ
one_marked word = encode_utf8_all (map (λ letter. if is_mark letter then 39 else letter) (chars word))

-- whether all groups have three digits but the first that has some
abbrev pub are_threes : List (List ℕ) → Bool
are_threes [] = true
are_threes (group ∷ groups) = if length group == 0 then are_threes groups else list_all (λ three. length three == 3) groups

-- the number of such groups of digits
abbrev pub grouped : List (List ℕ) → Amount
grouped groups = if are_threes groups then number_or (whole_number (concat groups)) Nothing else Nothing

-- what a word says: a whole number, or one with a decimal point or comma, or with a mark before each three digits
abbrev pub amount_said : List ℕ → Amount
amount_said word =
    number_or (whole_number word) (decimal_or (parts_at 46 word) (decimal_or (parts_at 44 word) (grouped (between 39 (one_marked word)))))

-- how often the lower number goes into the upper one, if it does so wholly and at most so often
abbrev pub wholly : ℕ → ℕ → ℕ → Option ℕ
wholly above below most = if (above % below == 0) && nat_le (above / below) most then Some (above / below) else None

-- so many hundredths as a number of units of so many hundredths each
abbrev pub units_of : Amount → ℕ → ℕ → Option ℕ
units_of (Hundredths amount) one most = wholly amount one most
units_of Ambiguous one most = None
units_of Nothing one most = None
