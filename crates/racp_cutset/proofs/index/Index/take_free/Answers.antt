use Rattle.std.proofs.Common.{arith}
use Rattle.racp_cutset.proofs.index.Index.take_free.Goals as goal

pub returns-then-place-count : goal.returns-then-place-count
returns-then-place-count c = (omega arith, omega arith)
