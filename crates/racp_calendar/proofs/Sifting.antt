-- Free days that are sifted, and weeks without work.
use Rattle.std.proofs.Common.{◌≡◌, refl, ap, sym, ◌∙◌, ℕ, suc, ◌+◌, ◌<◌, ◌≤◌, Bool, true, false, not, ◌&&◌, ◌||◌, arith, subst, List, [], ◌∷◌, get_or, length, nat_eq, nat_le, nat_lt, if◌then◌else◌}
use Rattle.std.proofs.lemmas.Bool.{and_from, eqb-false, ltb-false, ltb-true, leb-false, ne_eqb}
use Rattle.std.specs.List.Sorted.{IsNonDecreasing}
use Rattle.racp_calendar.specs.Work.{are_rising, is_free, is_weekly, is_worked, sifted}
use Rattle.racp_calendar.proofs.Frees.{free_none}

-- what is sifted rises
pub sifted_rises : (week : List Bool) (from : ℕ) (days : List ℕ) → are_rising week from (sifted week from days) ≡ true
sifted_rises week from [] = refl
sifted_rises week from (day ∷ days) = by (nat_le from day) (is_weekly week day) refl refl (sifted_rises week (day + 1) days) (sifted_rises week from days)
  where
    by : (after weekly : Bool) → nat_le from day ≡ after → is_weekly week day ≡ weekly → are_rising week (day + 1) (sifted week (day + 1) days) ≡ true → are_rising week from (sifted week from days) ≡ true →
        are_rising week from (if after && weekly then day ∷ sifted week (day + 1) days else sifted week from days) ≡ true
    by true true a w here past = and_from (nat_le from day) (is_weekly week day && are_rising week (day + 1) (sifted week (day + 1) days)) a (and_from (is_weekly week day) _ w here)
    by true false a w here past = past
    by false true a w here past = past
    by false false a w here past = past

-- days in order, from one on
abbrev pub are_from : ℕ → List ℕ → Type 0
are_from from [] = Unit {0}
are_from from (day ∷ days) = (from ≤ day) × are_from day days

-- before the first of them there is none
none_from : (from : ℕ) (days : List ℕ) (day : ℕ) → are_from from days → day < from → is_free days day ≡ false
none_from from [] day h before = refl
none_from from (free ∷ days) day h before =
    let after : day < free = omega (arith, h.0, before) in
    let other : nat_eq free day ≡ false = ne_eqb free day (λ e. omega (arith, after, e)) in
    subst (λ (b : Bool). (b || is_free days day) ≡ false) (sym other) (none_from free days day h.1 after)

pub in_order : (from : ℕ) (days : List ℕ) → ((j : ℕ) → j < length days → from ≤ get_or days j 0) → IsNonDecreasing days → are_from from days
in_order from [] low h = tt
in_order from (day ∷ days) low h =
    (low 0 (omega arith), in_order day days (λ j l. h 0 (suc j) 0 (omega arith) (omega (arith, l))) (λ i j d le l. h (suc i) (suc j) d (omega (arith, le)) (omega (arith, l))))

-- what is sifted has each day of those whose day of the week is worked on
taken : (week : List Bool) (free : ℕ) (days : List ℕ) (day : ℕ) (same : Bool) → nat_eq free day ≡ same → are_from free days →
    (free + 1 ≤ day → is_free (sifted week (free + 1) days) day ≡ is_free days day) →
    (nat_eq free day || is_free (sifted week (free + 1) days) day) ≡ (nat_eq free day || is_free days day)
taken week free days day true e order rest = ap (λ b. b || is_free (sifted week (free + 1) days) day) e ∙ sym (ap (λ b. b || is_free days day) e)
taken week free days day false e order rest = by (nat_lt free day) refl
  where
    less : day ≤ free → (free ≡ day → ⊥) → day < free
    less le ne = omega (arith, le, ne)

    by : (b : Bool) → nat_lt free day ≡ b → (nat_eq free day || is_free (sifted week (free + 1) days) day) ≡ (nat_eq free day || is_free days day)
    by true l = ap (λ b. nat_eq free day || b) (rest (omega (arith, ltb-true _ _ l)))
    by false l =
        let before : day < free = less (ltb-false _ _ l) (eqb-false _ _ e) in
        let none = free_none week (free + 1) (sifted week (free + 1) days) day (sifted_rises week (free + 1) days) (omega (arith, before)) in
        ap (λ b. nat_eq free day || b) (none ∙ sym (none_from free days day order before))

passed : (week : List Bool) (from free : ℕ) (days : List ℕ) (day : ℕ) (after weekly : Bool) → nat_le from free ≡ after → is_weekly week free ≡ weekly →
    (after && weekly) ≡ false → from ≤ day → is_weekly week day ≡ true → nat_eq free day ≡ false
passed week from free days day true weekly a w out le on =
    ne_eqb free day (λ e. no_two (is_weekly week free) (w ∙ out) (subst (λ (n : ℕ). is_weekly week n ≡ true) (sym e) on))
  where
    no_two : (b : Bool) → b ≡ false → b ≡ true → ⊥
    no_two b f t = absurd (cc (f, t))
passed week from free days day false weekly a w out le on = ne_eqb free day (λ e. omega (arith, leb-false _ _ a, le, e))

sifted_by : (week : List Bool) (from free : ℕ) (days : List ℕ) (day : ℕ) (after weekly : Bool) → nat_le from free ≡ after → is_weekly week free ≡ weekly →
    are_from free days → from ≤ day → is_weekly week day ≡ true →
    (free + 1 ≤ day → is_free (sifted week (free + 1) days) day ≡ is_free days day) → is_free (sifted week from days) day ≡ is_free days day →
    is_free (if after && weekly then free ∷ sifted week (free + 1) days else sifted week from days) day ≡ (nat_eq free day || is_free days day)
sifted_by week from free days day true true a w order le on here past = taken week free days day (nat_eq free day) refl order here
sifted_by week from free days day true false a w order le on here past = past ∙ sym (ap (λ b. b || is_free days day) (passed week from free days day true false a w refl le on))
sifted_by week from free days day false true a w order le on here past = past ∙ sym (ap (λ b. b || is_free days day) (passed week from free days day false true a w refl le on))
sifted_by week from free days day false false a w order le on here past = past ∙ sym (ap (λ b. b || is_free days day) (passed week from free days day false false a w refl le on))

pub sifted_same : (week : List Bool) (from low : ℕ) (days : List ℕ) (day : ℕ) → are_from low days → from ≤ day → is_weekly week day ≡ true →
    is_free (sifted week from days) day ≡ is_free days day
sifted_same week from low [] day order le on = refl
sifted_same week from low (free ∷ days) day order le on =
    sifted_by week from free days day (nat_le from free) (is_weekly week free) refl refl order.1 le on
    (λ less. sifted_same week (free + 1) free days day order.1 less on) (sifted_same week from free days day order.1 le on)

-- so the same days are worked on
pub sifted_worked : (week : List Bool) (days sorted : List ℕ) (day : ℕ) → are_from 0 sorted → is_free days day ≡ is_free sorted day →
    is_worked week (sifted week 0 sorted) day ≡ is_worked week days day
sifted_worked week days sorted day order same = by (is_weekly week day) refl
  where
    by : (weekly : Bool) → is_weekly week day ≡ weekly → (is_weekly week day && not (is_free (sifted week 0 sorted) day)) ≡ (is_weekly week day && not (is_free days day))
    by true e = ap (λ b. is_weekly week day && not b) (sifted_same week 0 0 sorted day order (omega arith) e ∙ sym same)
    by false e = ap (λ b. b && not (is_free (sifted week 0 sorted) day)) e ∙ sym (ap (λ b. b && not (is_free days day)) e)
