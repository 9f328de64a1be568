use Rattle.racp_prices.proofs.Lists.{AreRead}
use Rattle.racp_prices.proofs.numbers.all_within.Given as goal

abbrev pub invariant-loop-value : goal.invariant-loop-value
invariant-loop-value l = AreRead l.most l.items l.value-index l.numbers.items
