use Rattle.racp_prices.proofs.Limits.{read_within_limits}
use Rattle.racp_prices.proofs.laws.read_within_limits.Goals as goal

pub returns : goal.returns
returns c = read_within_limits
