use Rattle.racp_soonest.proofs.making.own_answer.Goals as goal

pub returns-clause-answer : goal.returns-clause-answer
returns-clause-answer g c = c.soonest_by.ensures c.args.task.now.net.now c.args.task.now.order.now c.requires.none_sooner c.in_ok-answer.ensures.answer
