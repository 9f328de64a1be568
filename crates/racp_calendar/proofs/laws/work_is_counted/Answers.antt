use Rattle.racp_calendar.proofs.Rising.{work_is_counted}
use Rattle.racp_calendar.proofs.laws.work_is_counted.Goals as goal

pub returns : goal.returns
returns c = work_is_counted
