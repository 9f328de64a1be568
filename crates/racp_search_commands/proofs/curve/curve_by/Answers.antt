use Rattle.racp_search_commands.proofs.Statuses.{curved_by}
use Rattle.racp_search_commands.proofs.curve.curve_by.Goals as goal

pub returns : goal.returns
returns g c = curved_by _ _ c.form.result _ _ _ _ c.curve_crowd_over-status.result c.curve_crowd_over-status.ensures
