use Rattle.racp_calendar.proofs.Rising.{blocks_are_counted}
use Rattle.racp_calendar.proofs.laws.blocks_are_counted.Goals as goal

pub returns : goal.returns
returns c = blocks_are_counted
