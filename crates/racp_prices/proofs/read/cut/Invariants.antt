use Rattle.racp_prices.proofs.Cutting.{AreCutBelow}
use Rattle.racp_prices.proofs.read.cut.Given as goal

abbrev pub invariant-loop-number : goal.invariant-loop-number
invariant-loop-number l = AreCutBelow l.most l.initial.numbers l.number-index l.numbers
