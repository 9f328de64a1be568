use Rattle.std.proofs.Common.{arith}
use Rattle.racp_calendar.proofs.Numbers.{month_late}
use Rattle.racp_calendar.proofs.periods.month_begin.Goals as goal

pub returns-then-year-gt9999 : goal.returns-then-year-gt9999
returns-then-year-gt9999 c = month_late c.args.month (omega (arith, c.if-year-gt9999.true))
