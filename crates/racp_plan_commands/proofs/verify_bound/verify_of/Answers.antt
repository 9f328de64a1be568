use Rattle.racp_plan_commands.proofs.Statuses.{bounded}
use Rattle.racp_plan_commands.proofs.verify_bound.verify_of.Goals as goal

pub returns : goal.returns
returns g c = bounded _ _ _ _ _ _ c.verify_bound_over-status.result c.verify_bound_over-status.ensures
