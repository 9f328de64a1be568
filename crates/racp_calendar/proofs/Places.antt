-- Numbers that pass a test, counted; weeks, one after the other; free days in rising order.
use Rattle.std.proofs.Common.{◌≡◌, refl, ap, ℕ, zero, suc, ◌+◌, ◌-◌, ◌*◌, ◌/◌, ◌%◌, ◌<◌, ◌≤◌, Bool, true, false, arith, subst, List, nat_lt, slice_index_or, if◌then◌else◌}
use Rattle.std.proofs.lemmas.Bool.{ltb-false, ltb-true}
use Rattle.racp_calendar.specs.Work.{count_below, is_weekly}

-- what a test adds to a count
abbrev pub one : Bool → ℕ
one b = if b then 1 else 0

-- none is below 0
pub count_zero : (test : ℕ → Bool) → count_below test 0 ≡ 0
unfolding count_below
count_zero test = refl

-- how a number counts
pub count_next : (test : ℕ → Bool) (n : ℕ) → count_below test (n + 1) ≡ count_below test n + one (test n)
unfolding count_below
count_next test n = let same : suc n ≡ n + 1 = omega arith in subst (λ (m : ℕ). count_below test m ≡ count_below test n + one (test n)) same step
  where
    step : count_below test (suc n) ≡ count_below test n + one (test n)
    step = refl

pub count_at : (test : ℕ → Bool) (n : ℕ) → test n ≡ true → count_below test (n + 1) ≡ count_below test n + 1
count_at test n h = subst (λ (b : Bool). count_below test (n + 1) ≡ count_below test n + one b) h (count_next test n)

pub count_past : (test : ℕ → Bool) (n : ℕ) → test n ≡ false → count_below test (n + 1) ≡ count_below test n
count_past test n h = let same = subst (λ (b : Bool). count_below test (n + 1) ≡ count_below test n + one b) h (count_next test n) in omega (arith, same)

one_most : (b : Bool) → one b ≤ 1
one_most true = omega arith
one_most false = omega arith

-- a count is no greater than the number
pub count_within : (test : ℕ → Bool) (n : ℕ) → count_below test n ≤ n
count_within test zero = let none = count_zero test in omega (arith, none)
count_within test (suc n) =
    let before = count_within test n in
    let step = count_next test n in
    let same : n + 1 ≡ suc n = omega arith in
    subst (λ (m : ℕ). count_below test m ≤ m) same (omega (arith, before, step, one_most (test n)))

-- counts rise
count_more : (test : ℕ → Bool) (n more : ℕ) → count_below test n ≤ count_below test (n + more)
count_more test n zero = let same : n ≡ n + 0 = omega arith in subst (λ (m : ℕ). count_below test n ≤ count_below test m) same (omega arith)
count_more test n (suc more) =
    let before = count_more test n more in
    let step = count_next test (n + more) in
    let same : n + more + 1 ≡ n + suc more = omega arith in
    subst (λ (m : ℕ). count_below test n ≤ count_below test m) same (omega (arith, before, step))

pub count_rises : (test : ℕ → Bool) (n later : ℕ) → n ≤ later → count_below test n ≤ count_below test later
count_rises test n later h =
    let same : n + (later - n) ≡ later = omega (arith, h) in
    subst (λ (m : ℕ). count_below test n ≤ count_below test m) same (count_more test n (later - n))

-- a number with fewer before it is less
pub fewer_less : (test : ℕ → Bool) (n later : ℕ) → count_below test n < count_below test later → n < later
fewer_less test n later h = by (nat_lt n later) refl
  where
    by : (b : Bool) → nat_lt n later ≡ b → n < later
    by true e = ltb-true _ _ e
    by false e = let back : later ≤ n = omega (arith, ltb-false _ _ e) in absurd (omega (arith, count_rises test later n back, h))

-- one that passes counts before a later one
pub passed_counts : (test : ℕ → Bool) (n later : ℕ) → test n ≡ true → n < later → count_below test n < count_below test later
passed_counts test n later h less = omega (arith, count_at test n h, count_rises test (n + 1) later (omega (arith, less)))

-- the day of the week is the same a number of weeks later
mod_weeks : (weeks day : ℕ) → (weeks * 7 + day) % 7 ≡ day % 7
mod_weeks weeks day = omega arith

pub weekly_later : (week : List Bool) (weeks day : ℕ) → is_weekly week (weeks * 7 + day) ≡ is_weekly week day
weekly_later week weeks day = ap (λ (n : ℕ). slice_index_or week n false) (mod_weeks weeks day)

-- so are the days counted
weeks_on : (week : List Bool) (weeks days : ℕ) → count_below (is_weekly week) (weeks * 7 + days) ≡ count_below (is_weekly week) (weeks * 7) + count_below (is_weekly week) days
weeks_on week weeks zero =
    let none = count_zero (is_weekly week) in
    let same : weeks * 7 ≡ weeks * 7 + 0 = omega arith in
    subst (λ (n : ℕ). count_below (is_weekly week) n ≡ count_below (is_weekly week) (weeks * 7) + count_below (is_weekly week) 0) same (omega (arith, none))
weeks_on week weeks (suc days) =
    let before = weeks_on week weeks days in
    let step = count_next (is_weekly week) (weeks * 7 + days) in
    let plain = count_next (is_weekly week) days in
    let counts = ap one (weekly_later week weeks days) in
    let same : weeks * 7 + days + 1 ≡ weeks * 7 + suc days = omega arith in
    let more : days + 1 ≡ suc days = omega arith in
    subst (λ (n : ℕ). count_below (is_weekly week) n ≡ count_below (is_weekly week) (weeks * 7) + count_below (is_weekly week) (suc days)) same
    (subst (λ (n : ℕ). count_below (is_weekly week) (weeks * 7 + days + 1) ≡ count_below (is_weekly week) (weeks * 7) + count_below (is_weekly week) n) more
    (omega (arith, before, step, plain, counts)))

whole_weeks : (week : List Bool) (weeks : ℕ) → count_below (is_weekly week) (weeks * 7) ≡ weeks * count_below (is_weekly week) 7
whole_weeks week zero = let none = count_zero (is_weekly week) in omega (arith, none)
whole_weeks week (suc weeks) =
    let before = whole_weeks week weeks in
    let step = weeks_on week weeks 7 in
    let same : weeks * 7 + 7 ≡ suc weeks * 7 = omega arith in
    subst (λ (n : ℕ). count_below (is_weekly week) n ≡ suc weeks * count_below (is_weekly week) 7) same
    (omega (arith, before, step, mul-suc (count_below (is_weekly week) 7) weeks))
  where
    mul-suc : (a b : ℕ) → suc b * a ≡ b * a + a
    mul-suc a b = omega arith

pub weeks_and_days : (week : List Bool) (weeks days : ℕ) → count_below (is_weekly week) (weeks * 7 + days) ≡ weeks * count_below (is_weekly week) 7 + count_below (is_weekly week) days
weeks_and_days week weeks days = let whole = whole_weeks week weeks in let on = weeks_on week weeks days in omega (arith, whole, on)

-- a number is its quotient and its rest
pub divided : (place each : ℕ) → 0 < each → place / each * each + place % each ≡ place
divided place each some = omega (arith, some)

-- the place of a day some weeks and days on
pub place_of_day : (each day weeks rest place : ℕ) → day ≡ weeks * each + rest → weeks * each + rest ≡ place → day ≡ place
place_of_day each day weeks rest place a b = omega (arith, a, b)
