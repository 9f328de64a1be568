-- What words say as durations and times.
use Rattle.std.specs.Prelude.{ℕ, ◌*◌, ◌==◌, Bool, ◌||◌, if◌then◌else◌, max, List, [], ◌∷◌, length, chars, codes, encode_utf8_all, bytes_eq, Option, Some, None}
use Rattle.std.specs.List.{before_first, list_any}
use Rattle.std.specs.Str.{trim}
use Rattle.std.specs.StrCase.Lower.{str_to_lowercase}
use Rattle.std.specs.Char.Unicode.Alphabetic.{is_alphabetic}
use Rattle.racp_tables.specs.Amounts.{amount_said, capped, wholly}
use Rattle.racp_tables.specs.Pieces.{from_first, without_end}
use Rattle.racp_tables.specs.declared.amount.Amount.{Amount}
use Rattle.racp_tables.specs.declared.amount.Amount.TheVariants.{Hundredths, Ambiguous, Nothing}
use Rattle.racp_tables.specs.declared.reading.Scale.{Scale}

-- the letters of a time without the question marks of an estimate, and without the blanks around it
abbrev pub time_letters : List ℕ → List ℕ
time_letters word = chars (trim (without_end 63 word))

-- the number of a time: what stands before its unit
abbrev pub number_part : List ℕ → List ℕ
number_part word = trim (encode_utf8_all (before_first is_alphabetic (time_letters word)))

-- the unit of a time: what stands from its first letter of the alphabet on, in small letters, without points at its end
abbrev pub unit_part : List ℕ → List ℕ
unit_part word = str_to_lowercase (without_end 46 (trim (encode_utf8_all (from_first is_alphabetic (time_letters word)))))

abbrev pub is_among : List (List ℕ) → List ℕ → Bool
is_among words word = list_any (λ known. bytes_eq known word) words

-- whether a word stands for days, as no word does; for weeks; for hours
abbrev pub is_day : List ℕ → Bool
is_day unit = (length unit == 0) || is_among (codes "d" ∷ codes "day" ∷ codes "days" ∷ codes "t" ∷ codes "tag" ∷ codes "tage" ∷ codes "tagen" ∷ []) unit

abbrev pub is_week : List ℕ → Bool
is_week unit = is_among (codes "w" ∷ codes "wk" ∷ codes "wks" ∷ codes "week" ∷ codes "weeks" ∷ codes "woche" ∷ codes "wochen" ∷ []) unit

abbrev pub is_hour : List ℕ → Bool
is_hour unit = is_among (codes "h" ∷ codes "hr" ∷ codes "hrs" ∷ codes "hour" ∷ codes "hours" ∷ codes "std" ∷ codes "stunde" ∷ codes "stunden" ∷ []) unit

-- how many time units a day has
abbrev pub units_a_day : Scale → ℕ
units_a_day scale = if scale.is_half_day then 2 else 1

-- so many hundredths of days as hundredths of time units
abbrev pub days : ℕ → Scale → ℕ
days amount scale = capped (amount * units_a_day scale)

-- so many hundredths of time units that a day has, as hours; none if it is not told how many hours make a day
abbrev pub hours : ℕ → Option ℕ → ℕ → Option ℕ
hours amount (Some hours_a_day) most = wholly amount (max hours_a_day 1 * 100) most
hours amount None most = None

-- so many hundredths of a unit that is called so, as time units up to the most; a week has five days
abbrev pub time_in : ℕ → List ℕ → Scale → ℕ → Option ℕ
time_in amount unit scale most =
    if is_day unit then wholly (days amount scale) 100 most
    else (if is_week unit then wholly (capped (days amount scale * 5)) 100 most
    else (if is_hour unit then hours (days amount scale) scale.hours_a_day most else None))

-- a time of this number and this unit
abbrev pub timed : Amount → List ℕ → Scale → ℕ → Option ℕ
timed (Hundredths amount) unit scale most = time_in amount unit scale most
timed Ambiguous unit scale most = None
timed Nothing unit scale most = None

-- how many time units a word says, if it is a whole number of them and at most this
abbrev pub time_said : List ℕ → Scale → ℕ → Option ℕ
time_said word scale most = timed (amount_said (number_part word)) (unit_part word) scale most
