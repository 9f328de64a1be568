use Rattle.racp_core.proofs.States.{returned_all}
use Rattle.racp_core.proofs.collector.Core.give_back.Goals as goal

pub returns-in-Some-clause-questions : goal.returns-in-Some-clause-questions
returns-in-Some-clause-questions g c = returned_all c.args.self.now _ _ c.put_whole.new.self c.put_whole.ensures
