use Rattle.std.proofs.Common.{arith}
use Rattle.racp_candidates.specs.AnySeries.{any_questions}
use Rattle.racp_by_questions.proofs.Asking.{answer_right, stop_right}
use Rattle.racp_by_questions.proofs.answering.CrowdAskerAnySeries.first.Goals as goal

pub returns-clause-answer : goal.returns-clause-answer
returns-clause-answer g c =
    answer_right c.args._net.now g.N.OfNetwork.network (any_questions c.args.series) c.args.self.now.left g.M.OfTurns.quiet c.in_ok-closed.closed c.answer.new.self.told c.answer.result c.requires.named.0
    c.in_ok-closed.ensures.closed c.answer.ensures.answer

pub returns-clause-stop : goal.returns-clause-stop
returns-clause-stop g c =
    stop_right c.args._net.now g.N.OfNetwork.network (any_questions c.args.series) c.args.self.now.left c.answer.new.self.left g.M.OfTurns.quiet c.in_ok-closed.closed c.answer.new.self.told c.answer.result
    c.requires.named.0 c.in_ok-closed.ensures.closed (omega (arith, c.in_ok-closed.ensures.left, c.answer.ensures.left)) c.answer.ensures.answer
