use Rattle.std.proofs.Common.{length}
use Rattle.racp_prices.proofs.Commas.{AreRead}
use Rattle.racp_prices.proofs.wanted_numbers.numbers_of.Given as goal

abbrev pub invariant-loop-front : goal.invariant-loop-front
invariant-loop-front l = AreRead l.word l.numbers.items l.rest

abbrev pub decreases-loop-front : goal.decreases-loop-front
decreases-loop-front l = length l.rest
