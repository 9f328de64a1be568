use Rattle.racp_calendar.proofs.Rising.{starts_on_workdays}
use Rattle.racp_calendar.proofs.laws.starts_on_workdays.Goals as goal

pub returns : goal.returns
returns c = starts_on_workdays
