use Rattle.racp_trees.proofs.Spelling.{number_behind}
use Rattle.racp_trees.proofs.reading.number_on.Goals as goal

pub returns : goal.returns
returns c = number_behind c.args.words.now c.args.text.now c.in_ok-behind.field-0 c.number_before.result c.in_ok-behind.ensures c.number_before.ensures
