-- Days that are worked on. Days are counted from the first day of a calendar, which is the day 0.
use Rattle.std.specs.Prelude.{◌≡◌, ℕ, zero, suc, ◌+◌, ◌-◌, ◌*◌, ◌/◌, ◌%◌, ◌&&◌, Bool, true, false, not, List, [], ◌∷◌, nat_eq, nat_le, nat_lt, slice_index_or, if◌then◌else◌}
use Rattle.std.specs.List.{list_any}

-- a day has a day of the week that is worked on: the seven of a week begin with that of the day 0
abbrev pub is_weekly : List Bool → ℕ → Bool
is_weekly week day = slice_index_or week (day % 7) false

-- a day is one of those that are free
abbrev pub is_free : List ℕ → ℕ → Bool
is_free free day = list_any (λ other. nat_eq other day) free

-- a day is worked on: its day of the week is, and it is not free
abbrev pub is_worked : List Bool → List ℕ → ℕ → Bool
is_worked week free day = is_weekly week day && not (is_free free day)

-- how many numbers below this one pass a test
unfoldable pub count_below : (ℕ → Bool) → ℕ → ℕ
count_below test zero = zero
count_below test (suc n) = count_below test n + (if test n then 1 else 0)

-- the place of a number among those that pass a test: it passes, and so do as many below it
abbrev pub IsPlace : (ℕ → Bool) → ℕ → ℕ → Type 0
IsPlace test place n = (test n ≡ true) × (count_below test n ≡ place)

-- free days rise, from a day on, and the day of the week of each is worked on
abbrev pub are_rising : List Bool → ℕ → List ℕ → Bool
are_rising week from [] = true
are_rising week from (day ∷ days) = nat_le from day && (is_weekly week day && are_rising week (day + 1) days)

-- some day of a week is worked on
abbrev pub has_day : List Bool → Bool
has_day week = nat_lt 0 (count_below (is_weekly week) 7)

-- the first of so many numbers, from one on, that passes a test; the number after them if none does
unfoldable pub first_from : (ℕ → Bool) → ℕ → ℕ → ℕ
first_from test zero from = from
first_from test (suc more) from = if test from then from else first_from test more (from + 1)

-- the last of so many numbers below one that passes a test; the first of them if none does
unfoldable pub last_before : (ℕ → Bool) → ℕ → ℕ → ℕ
last_before test zero end = end
last_before test (suc more) end = if test (end - 1) then end - 1 else last_before test more (end - 1)

-- days in blocks of so many: a block has work if one of its days is worked on
abbrev pub has_work : (ℕ → Bool) → ℕ → ℕ → Bool
has_work works span block = nat_lt (count_below works (block * span)) (count_below works ((block + 1) * span))

-- how many days have a day of the week that is worked on before the one that is worked on with so many before it: each
-- free day that comes no later is passed over
abbrev pub weekly_place : List Bool → List ℕ → ℕ → ℕ
weekly_place week [] place = place
weekly_place week (day ∷ days) place =
    if nat_lt place (count_below (is_weekly week) day) then place else weekly_place week days (place + 1)

-- free days in rising order, each of them once, and of those alone whose day of the week is worked on
abbrev pub sifted : List Bool → ℕ → List ℕ → List ℕ
sifted week from [] = []
sifted week from (day ∷ days) =
    if nat_le from day && is_weekly week day then day ∷ sifted week (day + 1) days else sifted week from days

-- the weeks of some free days that pass a test, each of them once
abbrev pub weeks_of : (ℕ → Bool) → ℕ → List ℕ → List ℕ
weeks_of test from [] = []
weeks_of test from (day ∷ days) =
    if nat_le from (day / 7)
    then (if test (day / 7) then (day / 7) ∷ weeks_of test (day / 7 + 1) days else weeks_of test (day / 7 + 1) days)
    else weeks_of test from days

-- the block of a time, unless it is so late: the first with which more blocks than that have work
unfoldable pub block_at : (ℕ → Bool) → ℕ → ℕ → ℕ → ℕ
block_at works span most time = first_from (λ block. nat_lt time (count_below (has_work works span) (block + 1))) most 0

-- the first and the last day of a block that are worked on
abbrev pub first_in : (ℕ → Bool) → ℕ → ℕ → ℕ
first_in works span block = first_from works span (block * span)

abbrev pub last_in : (ℕ → Bool) → ℕ → ℕ → ℕ
last_in works span block = last_before works span ((block + 1) * span)

-- the day on which what starts at a time is begun
abbrev pub start_day : (ℕ → Bool) → ℕ → ℕ → ℕ → ℕ
start_day works span most time = first_in works span (block_at works span most time)

-- the day on the evening of which what ends at a time is done; what ends at 0 is told by the first day
abbrev pub end_day : (ℕ → Bool) → ℕ → ℕ → ℕ → ℕ
end_day works span most zero = start_day works span most 0
end_day works span most (suc time) = last_in works span (block_at works span most time)
