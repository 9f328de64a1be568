use Rattle.racp_calendar.proofs.Rising.{days_rise}
use Rattle.racp_calendar.proofs.laws.days_rise.Goals as goal

pub returns : goal.returns
returns c = days_rise
