use Rattle.std.proofs.Common.{None}
use Rattle.racp_search_commands.proofs.Statuses.{ended_as, proved_by_trees}
use Rattle.racp_search_commands.proofs.prove.prove_by_trees.Goals as goal

pub returns : goal.returns
returns g c = ended_as _ _ _ _ c.prove_over_until-status.result c.ended.result c.ended.ensures.ok
    (proved_by_trees _ _ _ None None c.prove_over_until-status.result c.prove_over_until-status.ensures)
