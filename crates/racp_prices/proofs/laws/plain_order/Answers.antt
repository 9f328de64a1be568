use Rattle.racp_prices.proofs.Limits.{plain_order}
use Rattle.racp_prices.proofs.laws.plain_order.Goals as goal

pub returns : goal.returns
returns c = plain_order
