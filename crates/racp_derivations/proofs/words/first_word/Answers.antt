use Rattle.racp_derivations.specs.Words.{first_word}
use Rattle.racp_derivations.proofs.Numbering.{word-whole}
use Rattle.racp_derivations.proofs.words.first_word.Goals as goal

pub returns-in-Some : goal.returns-in-Some
unfolding first_word
returns-in-Some c = c.in-Some.ensures.1

pub returns-in-None : goal.returns-in-None
returns-in-None c = word-whole c.args.bytes.now c.in-None.ensures
