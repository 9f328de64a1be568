use Rattle.std.proofs.Common.{◌≡◌, ◌-◌, ℕ, arith, min, subst}
use Rattle.racp_calendar.specs.Dates.{day_of, days_after}
use Rattle.racp_calendar.specs.Periods.{day_numbered, last_number}
use Rattle.racp_calendar.proofs.Numbers.{first_day, numbered}
use Rattle.racp_calendar.proofs.periods.date_of.Goals as goal

pub returns : goal.returns
returns c =
    let days : c.saturating_sub.result ≡ min c.args.number last_number - 366 = omega (arith, c.capped.ensures, c.saturating_sub.ensures) in
    subst (λ (n : ℕ). day_of c.from_days_since_min.result ≡ days_after n first_day) days
    (numbered c.saturating_sub.result c.from_days_since_min.result c.from_days_since_min.ensures)
