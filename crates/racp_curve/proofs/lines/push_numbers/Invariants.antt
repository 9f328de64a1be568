use Rattle.std.proofs.Common.{◌≡◌, ◌++◌, drop}
use Rattle.racp_curve.specs.Texts.{spaced}
use Rattle.racp_curve.proofs.lines.push_numbers.Given as goal

abbrev pub invariant-loop-number : goal.invariant-loop-number
invariant-loop-number l = l.text.items ++ spaced (drop l.number-index l.numbers) ≡ l.initial.text.items ++ spaced l.numbers
