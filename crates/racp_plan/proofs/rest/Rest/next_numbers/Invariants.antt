use Rattle.racp_text.specs.Kept.{Keeps}
use Rattle.racp_text.proofs.lemmas.Rows.{IsReadingOn}
use Rattle.racp_plan.specs.Steps.{next_numbers}
use Rattle.racp_plan.proofs.Repeats.{left_after}
use Rattle.racp_plan.proofs.rest.Rest.next_numbers.Given as goal

abbrev pub invariant-loop-place : goal.invariant-loop-place
invariant-loop-place l = IsReadingOn (Keeps (λ list. list.items)) (next_numbers l.word 1 l.count l.fn.self) (left_after l.word l.count) l.self l.place l.numbers
