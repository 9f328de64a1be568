use Rattle.std.proofs.Common.{None}
use Rattle.racp_plan_commands.proofs.Statuses.{ended_as, exported}
use Rattle.racp_plan_commands.proofs.export.export_of.Goals as goal

pub returns : goal.returns
returns g c = ended_as _ _ _ _ c.export_over-status.result c.ended.result c.ended.ensures.ok
    (exported _ _ _ _ None None c.export_over-status.result c.export_over-status.ensures)
