use Rattle.racp_prove.proofs.Shown.{none_shown}
use Rattle.racp_prove.proofs.by_clauses.answer_none.Goals as goal

pub returns : goal.returns
returns c = none_shown c.args.task.now.net.now c.args.task.now.order.now c.args.answer.now c.answer_printed.result c.requires.answer c.requires.none c.answer_printed.ensures.text c.answer_printed.ensures.status
