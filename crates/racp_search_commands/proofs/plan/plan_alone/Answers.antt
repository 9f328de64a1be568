use Rattle.std.proofs.Common.{None}
use Rattle.racp_search_commands.proofs.Statuses.{ended_as, planned_alone}
use Rattle.racp_search_commands.proofs.plan.plan_alone.Goals as goal

pub returns : goal.returns
returns g c = ended_as _ _ _ _ c.run_over_within-status.result c.ended.result c.ended.ensures.ok
    (planned_alone _ _ None None c.run_over_within-status.result c.run_over_within-status.ensures)
