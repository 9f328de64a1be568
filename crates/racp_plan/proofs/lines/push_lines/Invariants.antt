use Rattle.std.proofs.Common.{◌≡◌, ◌+◌, ◌++◌, drop, codes}
use Rattle.racp_plan.specs.Steps.{number_lines}
use Rattle.racp_plan.proofs.lines.push_lines.Given as goal

abbrev pub invariant-loop-place : goal.invariant-loop-place
invariant-loop-place l = l.text.items ++ number_lines (l.word ++ codes " ") (l.place + 1) (drop l.place l.numbers) ≡ l.initial.text.items ++ number_lines (l.word ++ codes " ") 1 l.numbers
