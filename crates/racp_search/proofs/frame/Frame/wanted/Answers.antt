use Rattle.std.proofs.Common.{arith}
use Rattle.racp_search.proofs.frame.Frame.wanted.Goals as goal

pub returns-then-is_empty : goal.returns-then-is_empty
returns-then-is_empty g c = omega arith
