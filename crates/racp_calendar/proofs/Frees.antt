-- Free days in rising order, and which days are left.
use Rattle.std.proofs.Common.{◌≡◌, refl, ap, sym, ℕ, zero, suc, ◌+◌, ◌<◌, ◌≤◌, Bool, true, false, not, ◌&&◌, ◌||◌, arith, subst, List, [], ◌∷◌, nat_eq, nat_le, nat_lt, if◌then◌else◌}
use Rattle.std.proofs.lemmas.Bool.{and_parts, eqb-false, eqb-true, ltb-false, ltb-true, lt-ltb, le-ltb, leb-true, ne_eqb}
use Rattle.racp_calendar.specs.Work.{IsPlace, are_rising, count_below, is_free, is_weekly, is_worked, weekly_place}
use Rattle.racp_calendar.proofs.Places.{count_next, count_zero, fewer_less, one}

-- how many of some days are before a day
abbrev pub fewer : List ℕ → ℕ → ℕ
fewer [] day = 0
fewer (free ∷ days) day = one (nat_lt free day) + fewer days day

-- what is known of the first of rising days
pub record Rising (week : List Bool) (from day : ℕ) (days : List ℕ) : Type 0 where
  pub after : from ≤ day
  pub weekly : is_weekly week day ≡ true
  pub rest : are_rising week (day + 1) days ≡ true

pub rising_parts : (week : List Bool) (from day : ℕ) (days : List ℕ) → are_rising week from (day ∷ days) ≡ true → Rising week from day days
rising_parts week from day days h =
    let both = and_parts (nat_le from day) (is_weekly week day && are_rising week (day + 1) days) h in
    let more = and_parts (is_weekly week day) (are_rising week (day + 1) days) both.1 in
    record { after = leb-true from day both.0; weekly = more.0; rest = more.1 }

-- none of them is before the day from which they rise
pub fewer_none : (week : List Bool) (from : ℕ) (days : List ℕ) (day : ℕ) → are_rising week from days ≡ true → day ≤ from → fewer days day ≡ 0
fewer_none week from [] day h before = refl
fewer_none week from (free ∷ days) day h before =
    let parts = rising_parts week from free days h in
    let rest = fewer_none week (free + 1) days day parts.rest (omega (arith, parts.after, before)) in
    let less = ap one (le-ltb free day (omega (arith, parts.after, before))) in
    omega (arith, less, rest)

pub free_none : (week : List Bool) (from : ℕ) (days : List ℕ) (day : ℕ) → are_rising week from days ≡ true → day < from → is_free days day ≡ false
free_none week from [] day h before = refl
free_none week from (free ∷ days) day h before =
    let parts = rising_parts week from free days h in
    let rest = free_none week (free + 1) days day parts.rest (omega (arith, parts.after, before)) in
    let other : nat_eq free day ≡ false = ne_eqb free day (λ e. omega (arith, parts.after, before, e)) in
    subst (λ (b : Bool). (b || is_free days day) ≡ false) (sym other) rest

-- one day later there is one more of them, if the day is one
next_of : (free day more next : ℕ) (days : List ℕ) (less same : Bool) → nat_lt free day ≡ less → nat_eq free day ≡ same →
    next ≡ more + one (is_free days day) → (free ≡ day → next ≡ 0) → (free ≡ day → more ≡ 0) →
    one (nat_lt free (day + 1)) + next ≡ one (nat_lt free day) + more + one (nat_eq free day || is_free days day)
next_of free day more next days true same l e rest none none_yet =
    let is : free < day = ltb-true _ _ l in
    let later = ap one (lt-ltb free (day + 1) (omega (arith, is))) in
    let now = ap one l in
    let other = ap (λ b. one (b || is_free days day)) (ne_eqb free day (λ e. omega (arith, is, e))) in
    omega (arith, later, now, other, rest)
next_of free day more next days false true l e rest none none_yet =
    let is : free ≡ day = eqb-true _ _ e in
    let later = ap one (lt-ltb free (day + 1) (omega (arith, is))) in
    let now = ap one l in
    let here = ap (λ b. one (b || is_free days day)) e in
    omega (arith, later, now, here, none is, none_yet is)
next_of free day more next days false false l e rest none none_yet =
    let is : day < free = by (ltb-false _ _ l) (eqb-false _ _ e) in
    let later = ap one (le-ltb free (day + 1) (omega (arith, is))) in
    let now = ap one l in
    let other = ap (λ b. one (b || is_free days day)) e in
    omega (arith, later, now, other, rest)
  where
    by : day ≤ free → (free ≡ day → ⊥) → day < free
    by le ne = omega (arith, le, ne)

pub fewer_next : (week : List Bool) (from : ℕ) (days : List ℕ) (day : ℕ) → are_rising week from days ≡ true → fewer days (day + 1) ≡ fewer days day + one (is_free days day)
fewer_next week from [] day h = refl
fewer_next week from (free ∷ days) day h =
    let parts = rising_parts week from free days h in
    let rest = fewer_next week (free + 1) days day parts.rest in
    next_of free day (fewer days day) (fewer days (day + 1)) days (nat_lt free day) (nat_eq free day) refl refl rest
    (λ is. fewer_none week (free + 1) days (day + 1) parts.rest (omega (arith, is)))
    (λ is. fewer_none week (free + 1) days day parts.rest (omega (arith, is)))

-- a free day has a day of the week that is worked on
pub free_weekly : (week : List Bool) (from : ℕ) (days : List ℕ) (day : ℕ) → are_rising week from days ≡ true → is_free days day ≡ true → is_weekly week day ≡ true
free_weekly week from [] day h free = absurd (cc free)
free_weekly week from (other ∷ days) day h free =
    let parts = rising_parts week from other days h in
    weekly_by week other days day (nat_eq other day) refl parts.weekly (λ is. free_weekly week (other + 1) days day parts.rest is) free
  where
    weekly_by : (week : List Bool) (other : ℕ) (days : List ℕ) (day : ℕ) (same : Bool) → nat_eq other day ≡ same → is_weekly week other ≡ true →
        (is_free days day ≡ true → is_weekly week day ≡ true) → (nat_eq other day || is_free days day) ≡ true → is_weekly week day ≡ true
    weekly_by week other days day true e weekly rest free = subst (λ (n : ℕ). is_weekly week n ≡ true) (eqb-true _ _ e) weekly
    weekly_by week other days day false e weekly rest free = rest (subst (λ (b : Bool). (b || is_free days day) ≡ true) e free)

-- the days that are worked on and the free ones are those whose day of the week is worked on
worked_step : (weekly free : Bool) (worked before after : ℕ) → (free ≡ true → weekly ≡ true) → one (weekly && not free) + one free ≡ one weekly
worked_step true true worked before after h = refl
worked_step true false worked before after h = refl
worked_step false true worked before after h = absurd (cc (h refl))
worked_step false false worked before after h = refl

pub worked_and_free : (week : List Bool) (free : List ℕ) (day : ℕ) → are_rising week 0 free ≡ true → count_below (is_worked week free) day + fewer free day ≡ count_below (is_weekly week) day
worked_and_free week free zero h =
    let none = count_zero (is_worked week free) in
    let plain = count_zero (is_weekly week) in
    let no_free = fewer_none week 0 free 0 h (omega arith) in
    omega (arith, none, plain, no_free)
worked_and_free week free (suc day) h =
    let before = worked_and_free week free day h in
    let worked = count_next (is_worked week free) day in
    let plain = count_next (is_weekly week) day in
    let more = fewer_next week 0 free day h in
    let step = worked_step (is_weekly week day) (is_free free day) 0 0 0 (λ is. free_weekly week 0 free day h is) in
    let same : day + 1 ≡ suc day = omega arith in
    subst (λ (n : ℕ). count_below (is_worked week free) n + fewer free n ≡ count_below (is_weekly week) n) same
    (omega (arith, before, worked, plain, more, step))

-- what is passed over on the way to a place
pub record Left (week : List Bool) (days : List ℕ) (place day : ℕ) : Type 0 where
  pub passed : fewer days day + place ≡ weekly_place week days place
  pub not_free : is_free days day ≡ false

-- no more is passed over than there is
pub no_less : (week : List Bool) (days : List ℕ) (place : ℕ) → place ≤ weekly_place week days place
no_less week [] place = omega arith
no_less week (free ∷ days) place = by (nat_lt place (count_below (is_weekly week) free)) (no_less week days (place + 1))
  where
    by : (b : Bool) → place + 1 ≤ weekly_place week days (place + 1) → place ≤ (if b then place else weekly_place week days (place + 1))
    by true h = omega arith
    by false h = omega (arith, h)

left_by : (week : List Bool) (free : ℕ) (days : List ℕ) (place day : ℕ) (b : Bool) → nat_lt place (count_below (is_weekly week) free) ≡ b →
    is_weekly week free ≡ true → is_weekly week day ≡ true → are_rising week (free + 1) days ≡ true →
    count_below (is_weekly week) day ≡ (if b then place else weekly_place week days (place + 1)) →
    (count_below (is_weekly week) day ≡ weekly_place week days (place + 1) → Left week days (place + 1) day) →
    (one (nat_lt free day) + fewer days day + place ≡ (if b then place else weekly_place week days (place + 1))) × ((nat_eq free day || is_free days day) ≡ false)
left_by week free days place day true e weekly works rising is rest =
    let before : day < free = fewer_less (is_weekly week) day free (omega (arith, ltb-true _ _ e, is)) in
    let none = fewer_none week (free + 1) days day rising (omega (arith, before)) in
    let less = ap one (le-ltb free day (omega (arith, before))) in
    let other = ne_eqb free day (λ e. omega (arith, before, e)) in
    (omega (arith, none, less), subst (λ (b : Bool). (b || is_free days day) ≡ false) (sym other) (free_none week (free + 1) days day rising (omega (arith, before))))
left_by week free days place day false e weekly works rising is rest =
    let left = rest is in
    let behind : free < day = fewer_less (is_weekly week) free day (omega (arith, ltb-false _ _ e, is, no_less week days (place + 1))) in
    let less = ap one (lt-ltb free day (omega (arith, behind))) in
    let other = ne_eqb free day (λ e. omega (arith, behind, e)) in
    (omega (arith, less, left.passed), subst (λ (b : Bool). (b || is_free days day) ≡ false) (sym other) left.not_free)

pub left_at : (week : List Bool) (from : ℕ) (days : List ℕ) (place day : ℕ) → are_rising week from days ≡ true → is_weekly week day ≡ true →
    count_below (is_weekly week) day ≡ weekly_place week days place → Left week days place day
left_at week from [] place day rising works is = record { passed = omega arith; not_free = refl }
left_at week from (free ∷ days) place day rising works is =
    let parts = rising_parts week from free days rising in
    let both = left_by week free days place day (nat_lt place (count_below (is_weekly week) free)) refl parts.weekly works parts.rest is
    (λ here. left_at week (free + 1) days (place + 1) day parts.rest works here) in
    record { passed = both.0; not_free = both.1 }

-- the day with that place among those whose day of the week is worked on is the one that is sought
pub placed : (week : List Bool) (free : List ℕ) (time day : ℕ) → are_rising week 0 free ≡ true →
    IsPlace (is_weekly week) (weekly_place week free time) day → IsPlace (is_worked week free) time day
placed week free time day rising h =
    let left = left_at week 0 free time day rising h.0 h.1 in
    let all = worked_and_free week free day rising in
    (both (is_weekly week day) (is_free free day) h.0 left.not_free, omega (arith, left.passed, all, h.1))
  where
    both : (weekly free : Bool) → weekly ≡ true → free ≡ false → (weekly && not free) ≡ true
    both weekly free a b = subst (λ (w : Bool). (w && not free) ≡ true) (sym a) (ap not b)

-- at the first day that is not before a day, none is left that is
pub none_left : (week : List Bool) (from : ℕ) (days rest : List ℕ) (free day : ℕ) → days ≡ free ∷ rest → are_rising week from days ≡ true → day ≤ free → fewer days day ≡ 0
none_left week from days rest free day is rising before =
    let parts = rising_parts week from free rest (subst (λ (all : List ℕ). are_rising week from all ≡ true) is rising) in
    let none = fewer_none week (free + 1) rest day parts.rest (omega (arith, before)) in
    let less = ap one (le-ltb free day before) in
    subst (λ (all : List ℕ). fewer all day ≡ 0) (sym is) (omega (arith, none, less))
