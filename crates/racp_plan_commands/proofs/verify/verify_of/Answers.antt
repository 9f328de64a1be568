use Rattle.racp_plan_commands.proofs.Statuses.{verified}
use Rattle.racp_plan_commands.proofs.verify.verify_of.Goals as goal

pub returns : goal.returns
returns g c = verified _ _ _ _ _ _ _ c.verify_over_until-status.result c.verify_over_until-status.ensures
