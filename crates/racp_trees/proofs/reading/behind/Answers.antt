use Rattle.racp_trees.proofs.Spelling.{behind_is}
use Rattle.racp_trees.proofs.reading.behind.Goals as goal

pub returns : goal.returns
returns c = behind_is c.args.words.now c.args.text.now c.after_words.result c.after_words.ensures
