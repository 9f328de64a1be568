use Rattle.racp_calendar.proofs.Rising.{ends_on_workdays}
use Rattle.racp_calendar.proofs.laws.ends_on_workdays.Goals as goal

pub returns : goal.returns
returns c = ends_on_workdays
