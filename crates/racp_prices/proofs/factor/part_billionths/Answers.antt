use Rattle.std.proofs.Common.{length}
use Rattle.racp_prices.proofs.Factors.{part_small}
use Rattle.racp_prices.proofs.factor.part_billionths.Goals as goal

pub returns-clause-small : goal.returns-clause-small
returns-clause-small c = rw c.pow.ensures (part_small (length c.args.digits.now) c.in_ok-number.number c.in_ok-number.ensures.few c.in_ok-number.ensures.places)
