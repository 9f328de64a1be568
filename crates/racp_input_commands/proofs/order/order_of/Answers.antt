use Rattle.racp_input_commands.proofs.Statuses.{ordered}
use Rattle.racp_input_commands.proofs.order.order_of.Goals as goal

pub returns : goal.returns
returns g c = ordered c.args.asked _ _ _ c.order_over.result c.order_over.ensures
