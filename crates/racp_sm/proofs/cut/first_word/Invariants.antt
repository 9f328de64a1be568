use Rattle.std.proofs.Common.{◌≡◌, length}
use Rattle.racp_sm.specs.Lines.{words_in}
use Rattle.racp_sm.proofs.cut.first_word.Given as goal

abbrev pub invariant-loop-front : goal.invariant-loop-front
invariant-loop-front l = words_in l.bytes ≡ words_in l.rest

abbrev pub decreases-loop-front : goal.decreases-loop-front
decreases-loop-front l = length l.rest
