use Rattle.racp_search_commands.proofs.Statuses.{hastened_by}
use Rattle.racp_search_commands.proofs.soonest.soonest_by.Goals as goal

pub returns : goal.returns
returns g c = hastened_by _ _ _ _ _ _ c.soonest_to-status.result c.soonest_to-status.ensures
