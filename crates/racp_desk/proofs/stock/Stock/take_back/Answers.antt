use Rattle.std.proofs.Common.{arith}
use Rattle.racp_desk.proofs.stock.Stock.take_back.Goals as goal

pub returns : goal.returns
returns g c = omega (arith, c.merge.ensures.parts, c.args.worker.one_part)
