-- Dates as they are written: in which order, with which mark between the parts, and with zeros before a day or a month of one digit.
use Rattle.std.specs.Prelude.{◌≡◌, ◌⊎◌, ◌++◌, ℕ, Bool, false, true, List, [], ◌∷◌, nat_lt, unsigned_abs, if◌then◌else◌}
use Rattle.std.specs.Fmt.{decimal}
use Rattle.jiff_core.specs.declared.civil.date.Date.{Date}
use Rattle.racp_calendar.specs.declared.form.DateForm.{DateForm}
use Rattle.racp_calendar.specs.declared.form.Mark.{Mark}
use Rattle.racp_calendar.specs.declared.form.Mark.TheVariants.{Point, Slash, Hyphen}
use Rattle.racp_calendar.specs.declared.form.Order.{Order}
use Rattle.racp_calendar.specs.declared.form.Order.TheVariants.{YearMonthDay, DayMonthYear, MonthDayYear}

-- what stands before the digits of a day or a month, and of a year, which has four digits
abbrev pub zero_before : Bool → ℕ → List ℕ
zero_before zeros number = if zeros then (if nat_lt number 10 then 48 ∷ [] else []) else []

abbrev pub zeros_before : ℕ → List ℕ
zeros_before year =
    if nat_lt year 10 then 48 ∷ 48 ∷ 48 ∷ []
    else (if nat_lt year 100 then 48 ∷ 48 ∷ [] else (if nat_lt year 1000 then 48 ∷ [] else []))

abbrev pub two_digits : Bool → ℕ → List ℕ
two_digits zeros number = zero_before zeros number ++ decimal number

abbrev pub four_digits : ℕ → List ℕ
four_digits year = zeros_before year ++ decimal year

-- what stands between the parts
abbrev pub mark_text : Mark → List ℕ
mark_text Point = 46 ∷ []
mark_text Slash = 47 ∷ []
mark_text Hyphen = 45 ∷ []

unfoldable pub parts_text : List ℕ → List ℕ → List ℕ → List ℕ → List ℕ
parts_text mark first second third = first ++ mark ++ second ++ mark ++ third

abbrev pub in_order : Order → List ℕ → List ℕ → List ℕ → List ℕ → List ℕ
in_order YearMonthDay mark year month day = parts_text mark year month day
in_order DayMonthYear mark year month day = parts_text mark day month year
in_order MonthDayYear mark year month day = parts_text mark month day year

-- a date in a form
unfoldable pub written : DateForm → Bool → Date → List ℕ
written form zeros date =
    in_order form.order (mark_text form.mark) (four_digits (unsigned_abs date.year)) (two_digits zeros date.month) (two_digits zeros date.day)

-- a text is a date in a form, in which zeros may be wanted
abbrev pub IsWritten : DateForm → List ℕ → Date → Type 0
IsWritten form text date = (text ≡ written form true date) ⊎ ((form.has_zeros ≡ false) × (text ≡ written form false date))
