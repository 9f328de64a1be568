use Rattle.std.proofs.Common.{sym}
use Rattle.racp_sm.specs.Lines.{words_in}
use Rattle.racp_sm.specs.Steps.{texts}
use Rattle.racp_sm.proofs.Naming.{exact_words, other_words}
use Rattle.racp_sm.proofs.cut.are_words.Goals as goal

pub returns-in-Some : goal.returns-in-Some
returns-in-Some c = exact_words (texts c.args.names.now) (words_in c.args.bytes.now) c.in-Some.rest.now c.first_word.result c.is_none.result c.in-Some.ensures c.first_word.ensures c.is_none.ensures

pub returns-in-None : goal.returns-in-None
returns-in-None c = sym (other_words (words_in c.args.bytes.now) (texts c.args.names.now) c.in-None.ensures)
