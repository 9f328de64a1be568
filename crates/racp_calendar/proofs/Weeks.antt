-- Weeks that have a day that is worked on.
use Rattle.std.proofs.Common.{◌≡◌, refl, ap, sym, ◌∙◌, ℕ, zero, suc, ◌+◌, ◌*◌, ◌/◌, ◌%◌, ◌<◌, ◌≤◌, Bool, true, false, not, ◌&&◌, ◌||◌, arith, subst, List, [], ◌∷◌, nat_eq, nat_le, nat_lt, slice_index_or, if◌then◌else◌}
use Rattle.std.proofs.lemmas.Bool.{and_from, eqb-false, eqb-true, ltb-false, ltb-true, lt-ltb, le-ltb, leb-false, leb-true, le-leb, ne_eqb}
use Rattle.std.specs.List.{list_any}
use Rattle.racp_calendar.specs.Work.{are_rising, count_below, has_day, has_work, is_free, is_weekly, is_worked, weeks_of}
use Rattle.racp_calendar.proofs.Places.{count_at, count_next, count_past, count_rises, count_zero, one, weeks_and_days}
use Rattle.racp_calendar.proofs.Frees.{fewer, rising_parts, worked_and_free}

-- a week of which each day is worked on
abbrev pub all_days : List Bool
all_days = true ∷ true ∷ true ∷ true ∷ true ∷ true ∷ true ∷ []

seventh : (day : ℕ) → day < 7 → slice_index_or all_days day false ≡ true
seventh zero h = refl
seventh (suc zero) h = refl
seventh (suc (suc zero)) h = refl
seventh (suc (suc (suc zero))) h = refl
seventh (suc (suc (suc (suc zero)))) h = refl
seventh (suc (suc (suc (suc (suc zero))))) h = refl
seventh (suc (suc (suc (suc (suc (suc zero)))))) h = refl
seventh (suc (suc (suc (suc (suc (suc (suc day))))))) h = absurd (omega (arith, h))

pub each_day : (day : ℕ) → is_weekly all_days day ≡ true
each_day day = seventh (day % 7) (omega arith)

-- the weeks rise
rise_by : (test : ℕ → Bool) (from week : ℕ) (days : List ℕ) (after passes : Bool) → nat_le from week ≡ after → test week ≡ passes →
    are_rising all_days (week + 1) (weeks_of test (week + 1) days) ≡ true → are_rising all_days from (weeks_of test from days) ≡ true →
    (from ≤ week → are_rising all_days from (weeks_of test (week + 1) days) ≡ true) →
    are_rising all_days from (if after then (if passes then week ∷ weeks_of test (week + 1) days else weeks_of test (week + 1) days) else weeks_of test from days) ≡ true
rise_by test from week days true true a p next past later =
    and_from (nat_le from week) (is_weekly all_days week && are_rising all_days (week + 1) (weeks_of test (week + 1) days)) a (and_from (is_weekly all_days week) _ (each_day week) next)
rise_by test from week days true false a p next past later = later (leb-true _ _ a)
rise_by test from week days false passes a p next past later = past

lower : (week : List Bool) (from sooner : ℕ) (days : List ℕ) → sooner ≤ from → are_rising week from days ≡ true → are_rising week sooner days ≡ true
lower week from sooner [] le h = refl
lower week from sooner (day ∷ days) le h =
    let parts = rising_parts week from day days h in
    and_from (nat_le sooner day) (is_weekly week day && are_rising week (day + 1) days) (le-leb sooner day (omega (arith, le, parts.after))) (and_from (is_weekly week day) _ parts.weekly parts.rest)

pub weeks_rise : (test : ℕ → Bool) (from : ℕ) (days : List ℕ) → are_rising all_days from (weeks_of test from days) ≡ true
weeks_rise test from [] = refl
weeks_rise test from (day ∷ days) =
    let next = weeks_rise test (day / 7 + 1) days in
    rise_by test from (day / 7) days (nat_le from (day / 7)) (test (day / 7)) refl refl next (weeks_rise test from days)
    (λ le. lower all_days (day / 7 + 1) from (weeks_of test (day / 7 + 1) days) (omega (arith, le)) next)

-- each of them passes the test
passes_by : (test : ℕ → Bool) (from here : ℕ) (days : List ℕ) (week : ℕ) (after passes : Bool) → test here ≡ passes →
    (is_free (weeks_of test (here + 1) days) week ≡ true → test week ≡ true) → (is_free (weeks_of test from days) week ≡ true → test week ≡ true) →
    is_free (if after then (if passes then here ∷ weeks_of test (here + 1) days else weeks_of test (here + 1) days) else weeks_of test from days) week ≡ true → test week ≡ true
passes_by test from here days week true true p next past h = by (nat_eq here week) refl h
  where
    by : (same : Bool) → nat_eq here week ≡ same → (nat_eq here week || is_free (weeks_of test (here + 1) days) week) ≡ true → test week ≡ true
    by true e h = subst (λ (n : ℕ). test n ≡ true) (eqb-true _ _ e) p
    by false e h = next (subst (λ (b : Bool). (b || is_free (weeks_of test (here + 1) days) week) ≡ true) e h)
passes_by test from here days week true false p next past h = next h
passes_by test from here days week false passes p next past h = past h

pub weeks_pass : (test : ℕ → Bool) (from : ℕ) (days : List ℕ) (week : ℕ) → is_free (weeks_of test from days) week ≡ true → test week ≡ true
weeks_pass test from [] week h = absurd (cc h)
weeks_pass test from (day ∷ days) week h =
    passes_by test from (day / 7) days week (nat_le from (day / 7)) (test (day / 7)) refl (weeks_pass test (day / 7 + 1) days week) (weeks_pass test from days week) h

-- a week has one of some days
abbrev pub has_one : List ℕ → ℕ → Bool
has_one days week = list_any (λ day. nat_eq (day / 7) week) days

-- it is then no sooner than the days
no_sooner : (pattern : List Bool) (from : ℕ) (days : List ℕ) (week : ℕ) → are_rising pattern from days ≡ true → has_one days week ≡ true → from / 7 ≤ week
no_sooner pattern from [] week h one = absurd (cc one)
no_sooner pattern from (day ∷ days) week h one =
    let parts = rising_parts pattern from day days h in
    by (nat_eq (day / 7) week) refl parts.after one (λ there. no_sooner pattern (day + 1) days week parts.rest there)
  where
    by : (same : Bool) → nat_eq (day / 7) week ≡ same → from ≤ day → (nat_eq (day / 7) week || has_one days week) ≡ true → (has_one days week ≡ true → (day + 1) / 7 ≤ week) → from / 7 ≤ week
    by true e after h rest = let same = eqb-true _ _ e in omega (arith, same, after)
    by false e after h rest = let later = rest (subst (λ (b : Bool). (b || has_one days week) ≡ true) e h) in omega (arith, later, after)

-- and each that passes the test and has one of the days is one of them
found_by : (test : ℕ → Bool) (from here : ℕ) (days : List ℕ) (week : ℕ) (after passes : Bool) → nat_le from here ≡ after → test here ≡ passes →
    from ≤ week → test week ≡ true → (nat_eq here week || has_one days week) ≡ true → (has_one days week ≡ true → here ≤ week) →
    (has_one days week ≡ true → here + 1 ≤ week → is_free (weeks_of test (here + 1) days) week ≡ true) → (has_one days week ≡ true → is_free (weeks_of test from days) week ≡ true) →
    is_free (if after then (if passes then here ∷ weeks_of test (here + 1) days else weeks_of test (here + 1) days) else weeks_of test from days) week ≡ true
found_by test from here days week true true a p le on one low next past = by (nat_eq here week) refl one
  where
    less : here ≤ week → (here ≡ week → ⊥) → here + 1 ≤ week
    less le ne = omega (arith, le, ne)

    by : (same : Bool) → nat_eq here week ≡ same → (nat_eq here week || has_one days week) ≡ true → (nat_eq here week || is_free (weeks_of test (here + 1) days) week) ≡ true
    by true e h = ap (λ b. b || is_free (weeks_of test (here + 1) days) week) e
    by false e h =
        let there = subst (λ (b : Bool). (b || has_one days week) ≡ true) e h in
        subst (λ (b : Bool). (b || is_free (weeks_of test (here + 1) days) week) ≡ true) (sym e) (next there (less (low there) (eqb-false _ _ e)))
found_by test from here days week true false a p le on one low next past = by (nat_eq here week) refl one
  where
    less : here ≤ week → (here ≡ week → ⊥) → here + 1 ≤ week
    less le ne = omega (arith, le, ne)

    by : (same : Bool) → nat_eq here week ≡ same → (nat_eq here week || has_one days week) ≡ true → is_free (weeks_of test (here + 1) days) week ≡ true
    by true e h = let off = subst (λ (n : ℕ). test n ≡ false) (eqb-true _ _ e) p in absurd (cc (off, on))
    by false e h =
        let there = subst (λ (b : Bool). (b || has_one days week) ≡ true) e h in
        next there (less (low there) (eqb-false _ _ e))
found_by test from here days week false passes a p le on one low next past =
    let other : nat_eq here week ≡ false = ne_eqb here week (λ e. omega (arith, leb-false _ _ a, le, e)) in
    past (subst (λ (b : Bool). (b || has_one days week) ≡ true) other one)

pub weeks_found : (pattern : List Bool) (low : ℕ) (test : ℕ → Bool) (from : ℕ) (days : List ℕ) (week : ℕ) → are_rising pattern low days ≡ true →
    from ≤ week → test week ≡ true → has_one days week ≡ true → is_free (weeks_of test from days) week ≡ true
weeks_found pattern low test from [] week h le on one = absurd (cc one)
weeks_found pattern low test from (day ∷ days) week h le on one =
    let parts = rising_parts pattern low day days h in
    found_by test from (day / 7) days week (nat_le from (day / 7)) (test (day / 7)) refl refl le on one
    (λ there. let after = no_sooner pattern (day + 1) days week parts.rest there in omega (arith, after))
    (λ there less. weeks_found pattern (day + 1) test (day / 7 + 1) days week parts.rest less on there)
    (λ there. weeks_found pattern (day + 1) test from days week parts.rest le on there)

-- a week with no free day has work
same_side : (day week : ℕ) (same : Bool) → nat_eq (day / 7) week ≡ false → nat_lt day (week * 7) ≡ nat_lt day ((week + 1) * 7)
same_side day week same e = by (nat_lt day (week * 7)) refl
  where
    late : week * 7 ≤ day → (day / 7 ≡ week → ⊥) → (week + 1) * 7 ≤ day
    late le ne = omega (arith, le, ne)

    by : (b : Bool) → nat_lt day (week * 7) ≡ b → nat_lt day (week * 7) ≡ nat_lt day ((week + 1) * 7)
    by true l = l ∙ sym (lt-ltb day ((week + 1) * 7) (omega (arith, ltb-true _ _ l)))
    by false l = l ∙ sym (le-ltb day ((week + 1) * 7) (late (ltb-false _ _ l) (eqb-false _ _ e)))

none_more : (days : List ℕ) (week : ℕ) → has_one days week ≡ false → fewer days (week * 7) ≡ fewer days ((week + 1) * 7)
none_more [] week h = refl
none_more (day ∷ days) week h = by (nat_eq (day / 7) week) refl h (none_more days week)
  where
    by : (same : Bool) → nat_eq (day / 7) week ≡ same → (nat_eq (day / 7) week || has_one days week) ≡ false → (has_one days week ≡ false → fewer days (week * 7) ≡ fewer days ((week + 1) * 7)) →
        one (nat_lt day (week * 7)) + fewer days (week * 7) ≡ one (nat_lt day ((week + 1) * 7)) + fewer days ((week + 1) * 7)
    by true e h rest = absurd (cc (subst (λ (b : Bool). (b || has_one days week) ≡ false) e h))
    by false e h rest =
        let behind = rest (subst (λ (b : Bool). (b || has_one days week) ≡ false) e h) in
        let side = ap one (same_side day week false e) in
        omega (arith, behind, side)

works_there : (pattern : List Bool) (free : List ℕ) (week : ℕ) → are_rising pattern 0 free ≡ true → has_day pattern ≡ true → has_one free week ≡ false →
    has_work (is_worked pattern free) 7 week ≡ true
works_there pattern free week h some none =
    let begin = worked_and_free pattern free (week * 7) h in
    let end = worked_and_free pattern free ((week + 1) * 7) h in
    let before = weeks_and_days pattern week 0 in
    let whole = weeks_and_days pattern week 7 in
    let same : week * 7 + 7 ≡ (week + 1) * 7 = omega arith in
    let flat : week * 7 + 0 ≡ week * 7 = omega arith in
    let at_end = ap (λ (n : ℕ). count_below (is_weekly pattern) n) same in
    let at_begin = ap (λ (n : ℕ). count_below (is_weekly pattern) n) flat in
    let no_more = none_more free week none in
    let some_day = ltb-true 0 (count_below (is_weekly pattern) 7) some in
    lt-ltb _ _ (more (count_below (is_weekly pattern) (week * 7)) (count_below (is_weekly pattern) ((week + 1) * 7)) (rises pattern week at_begin at_end before whole some_day) begin end no_more)
  where
    more : (low high : ℕ) → low < high → count_below (is_worked pattern free) (week * 7) + fewer free (week * 7) ≡ low →
        count_below (is_worked pattern free) ((week + 1) * 7) + fewer free ((week + 1) * 7) ≡ high → fewer free (week * 7) ≡ fewer free ((week + 1) * 7) →
        count_below (is_worked pattern free) (week * 7) < count_below (is_worked pattern free) ((week + 1) * 7)
    more low high less a b c = omega (arith, less, a, b, c)

    rises : (pattern : List Bool) (week : ℕ) → count_below (is_weekly pattern) (week * 7 + 0) ≡ count_below (is_weekly pattern) (week * 7) →
        count_below (is_weekly pattern) (week * 7 + 7) ≡ count_below (is_weekly pattern) ((week + 1) * 7) →
        count_below (is_weekly pattern) (week * 7 + 0) ≡ week * count_below (is_weekly pattern) 7 + count_below (is_weekly pattern) 0 →
        count_below (is_weekly pattern) (week * 7 + 7) ≡ week * count_below (is_weekly pattern) 7 + count_below (is_weekly pattern) 7 →
        0 < count_below (is_weekly pattern) 7 → count_below (is_weekly pattern) (week * 7) < count_below (is_weekly pattern) ((week + 1) * 7)
    rises pattern week a b c d some = let rise = count_rises (is_weekly pattern) 0 7 (omega arith) in omega (arith, a, b, c, d, some, count_zero (is_weekly pattern))

-- so the weeks that are left out are those without work
pub weeks_worked : (pattern : List Bool) (free : List ℕ) (week : ℕ) → are_rising pattern 0 free ≡ true → has_day pattern ≡ true →
    is_worked all_days (weeks_of (λ (n : ℕ). not (has_work (is_worked pattern free) 7 n)) 0 free) week ≡ has_work (is_worked pattern free) 7 week
weeks_worked pattern free week h some =
    ap (λ b. b && not (is_free (weeks_of (λ (n : ℕ). not (has_work (is_worked pattern free) 7 n)) 0 free) week)) (each_day week) ∙ by (has_work (is_worked pattern free) 7 week) refl
  where
    idle : ℕ → Bool
    idle n = not (has_work (is_worked pattern free) 7 n)

    by : (b : Bool) → has_work (is_worked pattern free) 7 week ≡ b → not (is_free (weeks_of (λ (n : ℕ). not (has_work (is_worked pattern free) 7 n)) 0 free) week) ≡ has_work (is_worked pattern free) 7 week
    by true e = ap not (left_out (is_free (weeks_of (λ (n : ℕ). not (has_work (is_worked pattern free) 7 n)) 0 free) week) refl) ∙ sym e
      where
        left_out : (b : Bool) → is_free (weeks_of (λ (n : ℕ). not (has_work (is_worked pattern free) 7 n)) 0 free) week ≡ b → is_free (weeks_of (λ (n : ℕ). not (has_work (is_worked pattern free) 7 n)) 0 free) week ≡ false
        left_out true i = let off = weeks_pass (λ (n : ℕ). not (has_work (is_worked pattern free) 7 n)) 0 free week i in let on = ap not e in absurd (cc (off, on))
        left_out false i = i
    by false e = ap not (weeks_found pattern 0 (λ (n : ℕ). not (has_work (is_worked pattern free) 7 n)) 0 free week h (omega arith) (ap not e) (there (has_one free week) refl)) ∙ sym e
      where
        there : (b : Bool) → has_one free week ≡ b → has_one free week ≡ true
        there true i = i
        there false i = let on = works_there pattern free week h some i in absurd (cc (on, e))

-- a day has work if it is worked on
pub day_worked : (works : ℕ → Bool) (day : ℕ) → works day ≡ has_work works 1 day
day_worked works day =
    let here : day * 1 ≡ day = omega arith in
    let next : (day + 1) * 1 ≡ day + 1 = omega arith in
    let a = ap (λ (n : ℕ). count_below works n) here in
    let b = ap (λ (n : ℕ). count_below works n) next in
    by (works day) refl a b (count_next works day)
  where
    by : (w : Bool) → works day ≡ w → count_below works (day * 1) ≡ count_below works day → count_below works ((day + 1) * 1) ≡ count_below works (day + 1) →
        count_below works (day + 1) ≡ count_below works day + one (works day) → works day ≡ has_work works 1 day
    by true w a b c = let counts = ap one w in w ∙ sym (lt-ltb _ _ (omega (arith, a, b, c, counts)))
    by false w a b c = let counts = ap one w in w ∙ sym (le-ltb _ _ (omega (arith, a, b, c, counts)))

pub all_have : has_day all_days ≡ true
unfolding count_below
all_have = refl

-- a week has work from its first day that is worked on
pub some_work : (works : ℕ → Bool) (week day : ℕ) → day < 7 → count_below works (week * 7 + day) ≡ count_below works (week * 7) → works (week * 7 + day) ≡ true → true ≡ has_work works 7 week
some_work works week day within none on =
    let here = count_at works (week * 7 + day) on in
    let rise = count_rises works (week * 7 + day + 1) ((week + 1) * 7) (omega (arith, within)) in
    sym (lt-ltb _ _ (omega (arith, here, rise, none)))

pub no_work_yet : (works : ℕ → Bool) (week day : ℕ) → count_below works (week * 7 + day) ≡ count_below works (week * 7) → works (week * 7 + day) ≡ false → count_below works (week * 7 + (day + 1)) ≡ count_below works (week * 7)
no_work_yet works week day none off =
    let same : week * 7 + day + 1 ≡ week * 7 + (day + 1) = omega arith in
    subst (λ (n : ℕ). count_below works n ≡ count_below works (week * 7)) same (count_past works (week * 7 + day) off ∙ none)

pub some_day : (week : List Bool) (day : ℕ) → day < 7 → is_weekly week day ≡ true → true ≡ has_day week
some_day week day within on =
    let here = count_at (is_weekly week) day on in
    let rise = count_rises (is_weekly week) (day + 1) 7 (omega (arith, within)) in
    sym (lt-ltb 0 (count_below (is_weekly week) 7) (omega (arith, here, rise)))
