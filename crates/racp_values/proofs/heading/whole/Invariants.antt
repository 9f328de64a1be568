use Rattle.std.proofs.Common.{◌≡◌, length}
use Rattle.racp_values.proofs.heading.whole.Given as goal

abbrev pub invariant-loop-word : goal.invariant-loop-word
invariant-loop-word l = length l.names.items ≡ l.word-index
