use Rattle.std.proofs.Common.{rules}
use Rattle.racp_learning.proofs.Answering.{answer_of}
use Rattle.racp_learning.proofs.found.answers.Goals as goal

-- src/found.rt:14:1
pub returns : goal.returns
returns c = search (rules, answer_of c.args.net.now c.args.order.now c.args.bounds.now c.args.starts.now c.args.units.now (λ _. 18446744073709551615))
