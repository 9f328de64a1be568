-- Days by their numbers among all dates, and the first times that start on them or later.
use Rattle.std.proofs.Common.{◌≡◌, refl, sym, ◌∙◌, ℕ, zero, suc, ◌+◌, ◌-◌, ◌/◌, ◌%◌, ◌<◌, ◌≤◌, Bool, true, false, ℤ, pos, negsuc, ◌+ℤ◌, ◌<ℤ◌, arith, rules, subst, min, nat_le, nat_lt}
use Rattle.std.proofs.lemmas.Bool.{le-leb, lt-leb, ltb-false, ltb-true}
use Rattle.jiff_core.specs.declared.civil.date.Date.{Date}
use Rattle.jiff_core.specs.Date.{epoch_day}
use Rattle.jiff_core.proofs.CalendarLemmas.{days_from_civil-day_count, day_count-lt_year}
use Rattle.jiff_core.proofs.DateLemmas.{days_from_civil-max, days_from_civil-min, epoch_day_range}
use Rattle.jiff_core.proofs.SignedLemmas.{signed_arith}
use Rattle.racp_calendar.specs.Dates.{Day, day_of, days_after, most_days}
use Rattle.racp_calendar.specs.Periods.{begin_time, last_number, month_begin}
use Rattle.racp_calendar.specs.Times.{start_number}
use Rattle.racp_calendar.specs.Work.{first_from}
use Rattle.racp_calendar.specs.declared.workdays.Workdays.{Workdays}
use Rattle.racp_calendar.proofs.Blocks.{first_here, first_next, first_none}
use Rattle.racp_calendar.proofs.Days.{IsDay, after_is, number, same_day, within}

-- the first date
abbrev pub first_day : Day
first_day = record { year = negsuc 9998; month = 1; day = 1 }

first_is_day : IsDay first_day
first_is_day = record { year = search rules; first_month = omega arith; last_month = omega arith; first_day = omega arith; last_day = search rules }

-- the date so many days after it
pub numbered : (days : ℕ) (date : Date) → epoch_day date +ℤ pos 4_371_587 ≡ pos days → day_of date ≡ days_after days (record { year = negsuc 9998; month = 1; day = 1 })
numbered days date h =
    let later = after_is days first_day first_is_day in
    let same : epoch_day date ≡ number (days_after days first_day) = omega (arith, signed_arith, later.later_number, days_from_civil-min, h) in
    let here = within (days_after days first_day) later.is_day (omega (arith, signed_arith, same, epoch_day_range date)) in
    same_day date (days_after days first_day) later.is_day here same

-- no month after the year 9999 begins on a date
pub month_late : (month : ℕ) → 9999 < month / 12 → last_number + 1 ≡ month_begin month
month_late month late =
    let later : pos 9999 <ℤ pos (month / 12) = omega (arith, signed_arith, late) in
    let behind = day_count-lt_year (pos 9999) 12 31 (pos (month / 12)) (month % 12 + 1) 1 (search rules) (omega arith) later in
    omega (arith, signed_arith, behind, days_from_civil-max, days_from_civil-day_count (pos 9999) 12 31)

-- the least number that passes a test is the first
pub first_is : (test : ℕ → Bool) (more from time : ℕ) → from ≤ time → time ≤ from + more → ((n : ℕ) → n < time → test n ≡ false) → test time ≡ true →
    first_from test more from ≡ time
first_is test zero from time low high off on = first_none test from ∙ (omega (arith, low, high))
first_is test (suc more) from time low high off on = by (nat_lt from time) refl (λ next. first_is test more (from + 1) time next (omega (arith, high)) off on)
  where
    by : (b : Bool) → nat_lt from time ≡ b → (from + 1 ≤ time → first_from test more (from + 1) ≡ time) → first_from test (suc more) from ≡ time
    by true e rest = first_next test more from (off from (ltb-true from time e)) ∙ rest (omega (arith, ltb-true from time e))
    by false e rest =
        let here : from ≡ time = omega (arith, low, ltb-false from time e) in
        first_here test more from (subst (λ (n : ℕ). test n ≡ true) (sym here) on) ∙ here

-- the least time that starts on a day or later is the first of them
pub begun : (calendar : Workdays) (number time : ℕ) → time ≤ most_days → min number last_number ≤ start_number calendar time →
    ((sooner : ℕ) → sooner < time → start_number calendar sooner < min number last_number) → time ≡ begin_time calendar number
unfolding begin_time
begun calendar number time few keeps least =
    sym (first_is (λ time. nat_le (min number last_number) (start_number calendar time)) most_days 0 time (omega arith) (omega (arith, few))
    (λ n less. lt-leb (min number last_number) (start_number calendar n) (least n less))
    (le-leb (min number last_number) (start_number calendar time) keeps))
