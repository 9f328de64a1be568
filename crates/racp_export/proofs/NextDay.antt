-- The day after a date, and day numbers.
use Rattle.std.proofs.Common.{◌≡◌, refl, ℕ, zero, suc, ◌+◌, ◌≤◌, Bool, true, false, nat_lt, ℤ, pos, neg_ℤ, ◌+ℤ◌, ◌<ℤ◌, ◌≤ℤ◌, unsigned_abs, arith, rules, subst, negsuc, Result, Ok, Err, IsOk, IfOk, ◌↔◌, Option, Some, None, ap, option_map}
use Rattle.std.proofs.lemmas.Bool.{le-ltb, lt-ltb, ltb-false, ltb-true}
use Rattle.std.proofs.lemmas.Int.{by_lt_z}
use Rattle.jiff_core.specs.declared.civil.date.Date.{Date}
use Rattle.std.specs.Result.{result_ok}
use Rattle.jiff.specs.Words.{Error}
use Rattle.jiff_core.specs.Calendar.{days_from_civil, days_in_month, IsEpochDay}
use Rattle.jiff_core.specs.Date.{epoch_day}
use Rattle.jiff_core.proofs.SignedLemmas.{signed_arith}
use Rattle.jiff_core.proofs.CalendarLemmas.{days_from_civil-day_count, day_count_bounds, day_count-lt_year, days_in_month_bounds}
use Rattle.jiff_core.proofs.DateLemmas.{epoch_day_range, days_from_civil-day, days_from_civil-next_month, days_from_civil-next_year, days_from_civil-max, epoch_day_injective}
use Rattle.jiff.specs.Words.{date_text}
use Rattle.racp_calendar.specs.Dates.{Day, IsDateAfter, day_of, day_text, days_after, is_beyond, next_day}
use Rattle.racp_export.specs.Days.{word_of}

-- a day of the calendar, of which no year is the last
pub record IsDay (d : Day) : Type 0 where
  pub year : neg_ℤ (pos 9999) ≤ℤ d.year
  pub first_month : 1 ≤ d.month
  pub last_month : d.month ≤ 12
  pub first_day : 1 ≤ d.day
  pub last_day : d.day ≤ days_in_month d.year d.month

-- the number of a day
abbrev pub number : Day → ℤ
number d = days_from_civil d.year d.month d.day

-- a date is a day
pub date_is_day : (date : Date) → IsDay (day_of date)
date_is_day date = record { year = date.year_in.0; first_month = date.month_in.0; last_month = date.month_in.1; first_day = date.day_in.0; last_day = date.day_in.1 }

-- the day after a day has the next number
pub record IsNext (d next : Day) : Type 0 where
  pub is_day : IsDay next
  pub next_number : number next ≡ number d +ℤ pos 1

pub next_is : (d : Day) → IsDay d → IsNext d (next_day d)
next_is d h = by (nat_lt d.day (days_in_month d.year d.month)) refl (nat_lt d.month 12) refl
  where
    by : (within : Bool) → nat_lt d.day (days_in_month d.year d.month) ≡ within → (more : Bool) → nat_lt d.month 12 ≡ more → IsNext d (next_day d)
    by true e more f = rw e (record {
      is_day = record { year = h.year; first_month = h.first_month; last_month = h.last_month; first_day = omega arith; last_day = omega (arith, ltb-true _ _ e) };
      next_number = omega (arith, signed_arith, days_from_civil-day d.year d.month d.day (d.day + 1) h.first_day (omega arith));
    })
    by false e true f = rw (e, f) (record {
      is_day = record { year = h.year; first_month = omega arith; last_month = omega (arith, ltb-true _ _ f); first_day = omega arith; last_day = omega (arith, days_in_month_bounds d.year (d.month + 1)) };
      next_number = days_from_civil-next_month d.year d.month d.day h.first_month (omega (arith, ltb-false _ _ e, h.last_day));
    })
    by false e false f =
        let december : d.month ≡ 12 = omega (arith, ltb-false _ _ f, h.last_month) in
        let last : d.day ≡ days_in_month d.year 12 = subst (λ (m : ℕ). d.day ≡ days_in_month d.year m) december (omega (arith, ltb-false _ _ e, h.last_day)) in
        let next = d.year +ℤ pos 1 in
        rw (e, f) (record {
          is_day = record { year = omega (arith, signed_arith, h.year); first_month = omega arith; last_month = omega arith; first_day = omega arith; last_day = omega (arith, days_in_month_bounds next 1) };
          next_number = rw (december, last) (days_from_civil-next_year d.year next (omega (arith, signed_arith, h.year)) refl);
        })

-- the day so many days after a day has a number so much greater
pub record IsAfter (n : ℕ) (d later : Day) : Type 0 where
  pub is_day : IsDay later
  pub later_number : number later ≡ number d +ℤ pos n

pub after_is : (n : ℕ) (d : Day) → IsDay d → IsAfter n d (days_after n d)
unfolding days_after
after_is zero d h = record { is_day = h; later_number = omega (arith, signed_arith) }
after_is (suc n) d h =
    let before = after_is n d h in
    let next = next_is (days_after n d) before.is_day in
    record { is_day = next.is_day; later_number = omega (arith, signed_arith, before.later_number, next.next_number) }

-- the calendar's last day is 9999-12-31
pub beyond : (d : Day) → IsDay d → pos 2_932_896 <ℤ number d → is_beyond d ≡ true
beyond d h late = by_lt_z (pos 9999) d.year (λ after. lt-ltb 9999 (unsigned_abs d.year) (omega (arith, signed_arith, after)))
    (λ within. absurd (omega (
      arith,
      signed_arith,
      late,
      days_from_civil-day_count d.year d.month d.day,
      day_count_bounds d.year d.month d.day ((h.year, within), (h.first_month, h.last_month), (h.first_day, h.last_day)),
    )))

small : (year : ℤ) → neg_ℤ (pos 9999) ≤ℤ year → year ≤ℤ pos 9999 → unsigned_abs year ≤ 9999
small (pos n) low high = omega (arith, signed_arith, high)
small (negsuc n) low high = omega (arith, signed_arith, low)

pub within : (d : Day) → IsDay d → number d ≤ℤ pos 2_932_896 → is_beyond d ≡ false
within d h early = by_lt_z (pos 9999) d.year
    (λ after. absurd (omega (
      arith,
      signed_arith,
      early,
      days_from_civil-max,
      days_from_civil-day_count,
      day_count-lt_year (pos 9999) 12 31 d.year d.month d.day (search rules) h.first_day after,
    )))
    (λ within. le-ltb 9999 (unsigned_abs d.year) (small d.year h.year within))

-- a date with the number of a day that is not beyond is that day
pub same_day : (date : Date) (d : Day) → IsDay d → is_beyond d ≡ false → epoch_day date ≡ number d → day_of date ≡ d
same_day date d h not_beyond same =
    let that : Date = record { year = d.year; month = d.month; day = d.day; year_in = (h.year, omega (arith, signed_arith, ltb-false 9999 (unsigned_abs d.year) not_beyond)); month_in = (h.first_month, h.last_month); day_in = (h.first_day, h.last_day) } in
    let parts = epoch_day_injective date that same in
    rw (parts.0, parts.1, parts.2) refl

-- a date that was counted on to is right
pub counted : (first : Date) (days : ℕ) (counted : Result Date Error) → IsOk counted ↔ IsEpochDay (epoch_day first +ℤ pos days) →
    IfOk counted (λ date. epoch_day date ≡ epoch_day first +ℤ pos days) → IsDateAfter first days (result_ok counted)
counted first days (Ok date) succeeds value =
    let later = after_is days (day_of first) (date_is_day first) in
    let here = within (days_after days (day_of first)) later.is_day (omega (arith, signed_arith, later.later_number, value, epoch_day_range date)) in
    (here, same_day date (days_after days (day_of first)) later.is_day here (omega (arith, signed_arith, later.later_number, value)))
counted first days (Err fault) succeeds value =
    let later = after_is days (day_of first) (date_is_day first) in
    by_lt_z (pos 2_932_896) (number (days_after days (day_of first))) (λ after. beyond (days_after days (day_of first)) later.is_day after)
    (λ before. let fits = succeeds.1 (omega (arith, signed_arith, epoch_day_range first), omega (arith, signed_arith, before, later.later_number)) in absurd (cc fits))

-- how the day behind a date is told
pub behind_word : (date : Date) (found : Option Date) → IsDateAfter date 1 found → option_map date_text found ≡ word_of (next_day (day_of date))
unfolding days_after
behind_word date (Some next) h = rw (h.0) (ap (λ (day : Day). Some (day_text day)) h.1)
behind_word date None h = rw h refl
