use Rattle.std.proofs.Common.{IfOk}
use Rattle.clap.specs.Words.{new_app}
use Rattle.std.proofs.Math.ListN.{take}
use Rattle.racp_words.specs.Commands.{IsCommandOf, with_words}
use Rattle.racp_words.proofs.commands.command_of.Given as goal

abbrev pub invariant-loop-word : goal.invariant-loop-word
invariant-loop-word l = IfOk l.command (IsCommandOf (with_words (new_app l.line.name.now) (take l.word-index l.line.words.now)))
