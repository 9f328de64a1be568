use Rattle.std.proofs.Common.{None}
use Rattle.racp_plan_commands.proofs.Statuses.{ended_as, reported}
use Rattle.racp_plan_commands.proofs.report.report_of.Goals as goal

pub returns : goal.returns
returns g c = ended_as _ _ _ _ c.report_over-status.result c.ended.result c.ended.ensures.ok
    (reported _ _ _ _ None None c.report_over-status.result c.report_over-status.ensures)
