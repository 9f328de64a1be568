use Rattle.racp_search_commands.proofs.Statuses.{changed_by}
use Rattle.racp_search_commands.proofs.whatif.written_to.Goals as goal

pub returns : goal.returns
returns g c = changed_by _ _ _ _ _ _ _ _ _ c.whatif_to-status.result c.whatif_to-status.ensures
