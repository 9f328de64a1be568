use Rattle.std.proofs.Common.{None}
use Rattle.racp_plan_commands.proofs.Statuses.{ended_as, shown}
use Rattle.racp_plan_commands.proofs.show.show_of.Goals as goal

pub returns : goal.returns
returns g c = ended_as _ _ _ _ c.show_over-status.result c.ended.result c.ended.ensures.ok
    (shown _ _ _ _ None None c.show_over-status.result c.show_over-status.ensures)
