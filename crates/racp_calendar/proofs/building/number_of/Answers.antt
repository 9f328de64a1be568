use Rattle.std.proofs.Common.{arith}
use Rattle.jiff_core.proofs.CalendarLemmas.{days_from_civil-day_count}
use Rattle.jiff_core.proofs.SignedLemmas.{signed_arith}
use Rattle.racp_calendar.proofs.building.number_of.Goals as goal

pub returns-clause-value : goal.returns-clause-value
returns-clause-value c = omega (arith, signed_arith, c.days_since_min.ensures.value, days_from_civil-day_count c.args.date.year c.args.date.month c.args.date.day)
