-- The block of a time, and its first and its last day that are worked on.
use Rattle.std.proofs.Common.{◌≡◌, refl, ap, sym, ◌∙◌, ℕ, zero, suc, ◌+◌, ◌-◌, ◌<◌, ◌≤◌, Bool, true, false, arith, subst, min, nat_lt, if◌then◌else◌}
use Rattle.std.proofs.lemmas.Bool.{ltb-false, ltb-true, lt-ltb, le-ltb}
use Rattle.racp_calendar.specs.Work.{IsPlace, block_at, count_below, first_from, has_work, last_before}
use Rattle.racp_calendar.proofs.Places.{count_at, count_rises, count_within, one}

-- none of no numbers
pub first_none : (test : ℕ → Bool) (from : ℕ) → first_from test 0 from ≡ from
unfolding first_from
first_none test from = refl

pub first_here : (test : ℕ → Bool) (more from : ℕ) → test from ≡ true → first_from test (suc more) from ≡ from
unfolding first_from
first_here test more from h = ap (λ (b : Bool). if b then from else first_from test more (from + 1)) h

pub first_next : (test : ℕ → Bool) (more from : ℕ) → test from ≡ false → first_from test (suc more) from ≡ first_from test more (from + 1)
unfolding first_from
first_next test more from h = ap (λ (b : Bool). if b then from else first_from test more (from + 1)) h

pub last_none : (test : ℕ → Bool) (end : ℕ) → last_before test 0 end ≡ end
unfolding last_before
last_none test end = refl

pub last_here : (test : ℕ → Bool) (more end : ℕ) → test (end - 1) ≡ true → last_before test (suc more) end ≡ end - 1
unfolding last_before
last_here test more end h = ap (λ (b : Bool). if b then end - 1 else last_before test more (end - 1)) h

pub last_next : (test : ℕ → Bool) (more end : ℕ) → test (end - 1) ≡ false → last_before test (suc more) end ≡ last_before test more (end - 1)
unfolding last_before
last_next test more end h = ap (λ (b : Bool). if b then end - 1 else last_before test more (end - 1)) h

-- a step of the search for the first
pub first_past : (test : ℕ → Bool) (span begin step : ℕ) → step < span → test (begin + step) ≡ false →
    first_from test (span - (step + 1)) (begin + (step + 1)) ≡ first_from test (span - step) (begin + step)
first_past test span begin step within off =
    let more : suc (span - (step + 1)) ≡ span - step = omega (arith, within) in
    let next : begin + step + 1 ≡ begin + (step + 1) = omega arith in
    sym (subst (λ (n : ℕ). first_from test n (begin + step) ≡ first_from test (span - (step + 1)) (begin + (step + 1))) more
    (subst (λ (n : ℕ). first_from test (suc (span - (step + 1))) (begin + step) ≡ first_from test (span - (step + 1)) n) next (first_next test (span - (step + 1)) (begin + step) off)))

pub first_found : (test : ℕ → Bool) (span begin step : ℕ) → step < span → test (begin + step) ≡ true →
    first_from test (span - step) (begin + step) ≡ begin + step
first_found test span begin step within on =
    let more : suc (span - (step + 1)) ≡ span - step = omega (arith, within) in
    subst (λ (n : ℕ). first_from test n (begin + step) ≡ begin + step) more (first_here test (span - (step + 1)) (begin + step) on)

pub first_nowhere : (test : ℕ → Bool) (span begin step : ℕ) → span ≤ step → first_from test (span - step) (begin + step) ≡ begin + step
first_nowhere test span begin step all =
    let none : 0 ≡ span - step = omega (arith, all) in
    subst (λ (n : ℕ). first_from test n (begin + step) ≡ begin + step) none (first_none test (begin + step))

-- and for the last
pub last_past : (test : ℕ → Bool) (span end step : ℕ) → step < span → span ≤ end → test (end - step - 1) ≡ false →
    last_before test (span - (step + 1)) (end - (step + 1)) ≡ last_before test (span - step) (end - step)
last_past test span end step within room off =
    let more : suc (span - (step + 1)) ≡ span - step = omega (arith, within) in
    let next : end - step - 1 ≡ end - (step + 1) = omega arith in
    sym (subst (λ (n : ℕ). last_before test n (end - step) ≡ last_before test (span - (step + 1)) (end - (step + 1))) more
    (subst (λ (n : ℕ). last_before test (suc (span - (step + 1))) (end - step) ≡ last_before test (span - (step + 1)) n) next (last_next test (span - (step + 1)) (end - step) off)))

pub last_found : (test : ℕ → Bool) (span end step : ℕ) → step < span → test (end - step - 1) ≡ true →
    last_before test (span - step) (end - step) ≡ end - step - 1
last_found test span end step within on =
    let more : suc (span - (step + 1)) ≡ span - step = omega (arith, within) in
    subst (λ (n : ℕ). last_before test n (end - step) ≡ end - step - 1) more (last_here test (span - (step + 1)) (end - step) on)

pub last_nowhere : (test : ℕ → Bool) (span end step : ℕ) → span ≤ step → last_before test (span - step) (end - step) ≡ end - step
last_nowhere test span end step all =
    let none : 0 ≡ span - step = omega (arith, all) in
    subst (λ (n : ℕ). last_before test n (end - step) ≡ end - step) none (last_none test (end - step))

-- tests that agree count alike
pub count_same : (test other : ℕ → Bool) → ((n : ℕ) → test n ≡ other n) → (n : ℕ) → count_below test n ≡ count_below other n
unfolding count_below
count_same test other h zero = refl
count_same test other h (suc n) =
    let before = count_same test other h n in
    let here = ap one (h n) in
    sum_of (count_below test n) (count_below other n) (one (test n)) (one (other n)) before here
  where
    sum_of : (a b x y : ℕ) → a ≡ b → x ≡ y → a + x ≡ b + y
    sum_of a b x y p q = omega (arith, p, q)

-- the place of a time is the first number with which more than that many pass
first_place : (test : ℕ → Bool) (time place more from : ℕ) → IsPlace test time place → from ≤ place →
    first_from (λ n. nat_lt time (count_below test (n + 1))) more from ≡ min place (from + more)
first_place test time place zero from h le =
    let least : from ≡ min place (from + 0) = omega (arith, le) in
    first_none (λ n. nat_lt time (count_below test (n + 1))) from ∙ least
first_place test time place (suc more) from h le = by (nat_lt from place) refl (λ next. first_place test time place more (from + 1) h next)
  where
    by : (b : Bool) → nat_lt from place ≡ b → (from + 1 ≤ place → first_from (λ n. nat_lt time (count_below test (n + 1))) more (from + 1) ≡ min place (from + 1 + more)) →
        first_from (λ n. nat_lt time (count_below test (n + 1))) (suc more) from ≡ min place (from + suc more)
    by true e rest =
        let before = ltb-true from place e in
        let few = count_rises test (from + 1) place (omega (arith, before)) in
        let off : nat_lt time (count_below test (from + 1)) ≡ false = le-ltb time (count_below test (from + 1)) (omega (arith, few, h.1)) in
        let same : min place (from + 1 + more) ≡ min place (from + suc more) = ap (λ (n : ℕ). min place n) (omega arith) in
        first_next (λ n. nat_lt time (count_below test (n + 1))) more from off ∙ rest (omega (arith, before)) ∙ same
    by false e rest =
        let here : place ≡ from = omega (arith, ltb-false from place e, le) in
        let counted = count_at test place h.0 in
        let on : nat_lt time (count_below test (place + 1)) ≡ true = lt-ltb time (count_below test (place + 1)) (omega (arith, counted, h.1)) in
        let there = subst (λ (n : ℕ). nat_lt time (count_below test (n + 1)) ≡ true) here on in
        let least : from ≡ min place (from + suc more) = omega (arith, here) in
        first_here (λ n. nat_lt time (count_below test (n + 1))) more from there ∙ least

pub place_is_block : (works : ℕ → Bool) (span most time place : ℕ) → IsPlace (has_work works span) time place → block_at works span most time ≡ min place most
unfolding block_at
place_is_block works span most time place h =
    let same : min place (0 + most) ≡ min place most = ap (λ (n : ℕ). min place n) (omega arith) in
    first_place (has_work works span) time place most 0 h (omega arith) ∙ same

-- so late a time has no block
none_early : (test : ℕ → Bool) (time more from : ℕ) → from + more ≤ time → first_from (λ n. nat_lt time (count_below test (n + 1))) more from ≡ from + more
none_early test time zero from le = first_none (λ n. nat_lt time (count_below test (n + 1))) from ∙ (omega arith)
none_early test time (suc more) from le =
    let few = count_within test (from + 1) in
    let off : nat_lt time (count_below test (from + 1)) ≡ false = le-ltb time (count_below test (from + 1)) (omega (arith, few, le)) in
    let on = none_early test time more (from + 1) (omega (arith, le)) in
    first_next (λ n. nat_lt time (count_below test (n + 1))) more from off ∙ on ∙ (omega arith)

pub late_block : (works : ℕ → Bool) (span most time : ℕ) → most ≤ time → block_at works span most time ≡ most
unfolding block_at
late_block works span most time late =
    let same : 0 + most ≡ most = omega arith in
    none_early (has_work works span) time most 0 (omega (arith, late)) ∙ same
