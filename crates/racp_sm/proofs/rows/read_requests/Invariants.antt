use Rattle.racp_sm.specs.Parts.{next_numbers}
use Rattle.racp_sm.specs.Steps.{IsSameStream}
use Rattle.racp_text.specs.Kept.{Keeps}
use Rattle.racp_sm.specs.declared.fault.SmFaultKind.TheVariants.{Limit}
use Rattle.racp_text.proofs.lemmas.Rows.{IsReadingOn}
use Rattle.racp_sm.proofs.Repeats.{numbers_left}
use Rattle.racp_sm.proofs.rows.read_requests.Given as goal

abbrev pub invariant-loop : goal.invariant-loop
invariant-loop l = IsReadingOn (Keeps (λ requests. requests.items)) (next_numbers l.fn.words.title Limit 0 10000 l.resources l.fn.words.words) (numbers_left l.fn.words.title Limit 0 10000 l.resources) l.words.words l.counter l.requests × IsSameStream l.fn.words l.words
