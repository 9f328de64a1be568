use Rattle.std.proofs.Common.{rules}
use Rattle.std.proofs.Math.Bool.{or-false}
use Rattle.racp_prices.proofs.version.is_plain_key.Goals as goal

pub returns-then-eq : goal.returns-then-eq
returns-then-eq c = search (rules, or-false)

pub returns-else-eq : goal.returns-else-eq
returns-else-eq c = search (rules, or-false)
