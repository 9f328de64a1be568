use Rattle.racp_search_commands.proofs.Statuses.{curved}
use Rattle.racp_search_commands.proofs.curve.curve_alone.Goals as goal

pub returns : goal.returns
returns g c = curved c.form.result _ _ _ _ c.curve_over.result c.curve_over.ensures
