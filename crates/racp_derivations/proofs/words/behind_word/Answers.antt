use Rattle.racp_derivations.specs.Words.{behind_word}
use Rattle.racp_derivations.proofs.Numbering.{nothing-behind}
use Rattle.racp_derivations.proofs.words.behind_word.Goals as goal

pub returns-in-Some : goal.returns-in-Some
unfolding behind_word
returns-in-Some c = c.in-Some.ensures.2

pub returns-in-None : goal.returns-in-None
returns-in-None c = nothing-behind c.args.bytes.now c.in-None.ensures
