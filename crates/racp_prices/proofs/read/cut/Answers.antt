use Rattle.std.proofs.Common.{arith}
use Rattle.racp_prices.proofs.Cutting.{cut_start, cut_step, cut_end}
use Rattle.racp_prices.proofs.read.cut.Goals as goal

pub loop-number-init : goal.loop-number-init
loop-number-init c = cut_start _ _

pub loop-number-preserved : goal.loop-number-preserved
loop-number-preserved c = rw c.min.ensures (cut_step _ _ _ _ (omega arith) c.loop-number.invariant)

pub returns : goal.returns
returns c = cut_end _ _ _ _ (omega arith) c.loop-number.invariant
