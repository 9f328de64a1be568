-- Days of holidays, one after the other.
use Rattle.std.proofs.Common.{◌≡◌, refl, ap, sym, ◌∙◌, ℕ, ◌+◌, ◌-◌, ◌<◌, ◌≤◌, Bool, true, false, ◌&&◌, ◌||◌, arith, List, [], ◌∷◌, ◌++◌, inl, inr, max, nat_eq, nat_le, nat_lt}
use Rattle.std.proofs.lemmas.Bool.{cases_order, lt-ltb, le-ltb, le-leb, lt-leb, eq-eqb, ne_eqb, ltb-true, ltb-false, leb-true}
use Rattle.std.proofs.lemmas.List.Folds.{list_any-append}
use Rattle.racp_calendar.specs.Work.{is_free}

-- a day is one of those from one number to before another, where the days are counted from a start
abbrev pub between : ℕ → ℕ → ℕ → ℕ → Bool
between from start end day = nat_le from (start + day) && nat_lt (start + day) end

none : (x : Bool) → (x && false) ≡ false
none true = refl
none false = refl

-- none is before the first
pub none_between : (from start day : ℕ) → between from start (max from start) day ≡ false
none_between from start day = by (nat_lt (start + day) (max from start)) refl
  where
    by : (b : Bool) → nat_lt (start + day) (max from start) ≡ b → (nat_le from (start + day) && nat_lt (start + day) (max from start)) ≡ false
    by true e = ap (λ b. b && nat_lt (start + day) (max from start)) (lt-leb from (start + day) (omega (arith, ltb-true _ _ e)))
    by false e = ap (λ b. nat_le from (start + day) && b) e ∙ none (nat_le from (start + day))

pub nothing_yet : (from start day : ℕ) (free : Bool) → free ≡ (free || between from start (max from start) day)
nothing_yet from start day true = refl
nothing_yet from start day false = sym (none_between from start day)

-- one more of them
step : (from start end day : ℕ) → start ≤ end → from ≤ end → (between from start end day || nat_eq (end - start) day) ≡ between from start (end + 1) day
step from start end day s f = elim (cases_order (start + day) end) as (λ _. (between from start end day || nat_eq (end - start) day) ≡ between from start (end + 1) day) [
  | inl e ↦ here (nat_le from (start + day)) (nat_lt (start + day) end) (nat_eq (end - start) day) (nat_lt (start + day) (end + 1))
      (le-leb from (start + day) (omega (arith, f, e))) (eq-eqb (end - start) day (omega (arith, e))) (lt-ltb (start + day) (end + 1) (omega (arith, e)))
  | inr more ↦ elim more as (λ _. (between from start end day || nat_eq (end - start) day) ≡ between from start (end + 1) day) [
    | inl l ↦ before (nat_le from (start + day)) (nat_lt (start + day) end) (nat_eq (end - start) day) (nat_lt (start + day) (end + 1))
        (lt-ltb (start + day) end l) (ne_eqb (end - start) day (λ e. omega (arith, l, e, s))) (lt-ltb (start + day) (end + 1) (omega (arith, l)))
    | inr g ↦ after (nat_le from (start + day)) (nat_lt (start + day) end) (nat_eq (end - start) day) (nat_lt (start + day) (end + 1))
        (le-ltb (start + day) end (omega (arith, g))) (ne_eqb (end - start) day (λ e. omega (arith, g, e, s))) (le-ltb (start + day) (end + 1) (omega (arith, g)))
  ]
]
  where
    here : (x l e m : Bool) → x ≡ true → e ≡ true → m ≡ true → ((x && l) || e) ≡ (x && m)
    here true true true true a b c = refl
    here true false true true a b c = refl
    here false l e m a b c = absurd (cc a)
    here true l false m a b c = absurd (cc b)
    here true l true false a b c = absurd (cc c)

    before : (x l e m : Bool) → l ≡ true → e ≡ false → m ≡ true → ((x && l) || e) ≡ (x && m)
    before true true false true a b c = refl
    before false true false true a b c = refl
    before x false e m a b c = absurd (cc a)
    before x true true m a b c = absurd (cc b)
    before x true false false a b c = absurd (cc c)

    after : (x l e m : Bool) → l ≡ false → e ≡ false → m ≡ false → ((x && l) || e) ≡ (x && m)
    after true false false false a b c = refl
    after false false false false a b c = refl
    after x true e m a b c = absurd (cc a)
    after x false true m a b c = absurd (cc b)
    after x false false true a b c = absurd (cc c)

or_assoc : (a b c : Bool) → ((a || b) || c) ≡ (a || (b || c))
or_assoc true b c = refl
or_assoc false b c = refl

or_none : (a : Bool) → (a || false) ≡ a
or_none true = refl
or_none false = refl

pub pushed : (before days : List ℕ) (from start end day : ℕ) → start ≤ end → from ≤ end →
    is_free days day ≡ (is_free before day || between from start end day) →
    is_free (days ++ (end - start) ∷ []) day ≡ (is_free before day || between from start (end + 1) day)
pushed before days from start end day s f same =
    list_any-append (λ other. nat_eq other day) days ((end - start) ∷ [])
    ∙ ap (λ b. is_free days day || b) (or_none (nat_eq (end - start) day))
    ∙ ap (λ b. b || nat_eq (end - start) day) same
    ∙ or_assoc (is_free before day) (between from start end day) (nat_eq (end - start) day)
    ∙ ap (λ b. is_free before day || b) (step from start end day s f)

-- all of them, behind the last
pub all_pushed : (from start last end day : ℕ) → last < end → end ≤ max (max from start) (last + 1) → max from start ≤ end →
    between from start end day ≡ (nat_le from (start + day) && nat_le (start + day) last)
all_pushed from start last end day past most least = by (nat_le from (start + day)) refl
  where
    same : from ≤ start + day → nat_lt (start + day) end ≡ nat_le (start + day) last
    same le = at (nat_lt (start + day) end) refl
      where
        at : (b : Bool) → nat_lt (start + day) end ≡ b → nat_lt (start + day) end ≡ nat_le (start + day) last
        at true e = e ∙ sym (le-leb (start + day) last (omega (arith, ltb-true _ _ e, most, le)))
        at false e = e ∙ sym (lt-leb (start + day) last (omega (arith, ltb-false _ _ e, past)))

    by : (b : Bool) → nat_le from (start + day) ≡ b → (nat_le from (start + day) && nat_lt (start + day) end) ≡ (nat_le from (start + day) && nat_le (start + day) last)
    by true e = ap (λ b. nat_le from (start + day) && b) (same (leb-true _ _ e))
    by false e = ap (λ b. b && nat_lt (start + day) end) e ∙ sym (ap (λ b. b && nat_le (start + day) last) e)
