use Rattle.racp_sm.specs.Parts.{next_numbers}
use Rattle.racp_text.specs.Kept.{KeepsMore}
use Rattle.racp_sm.specs.Steps.{IsSameStream, with_each}
use Rattle.racp_sm.specs.declared.fault.SmFaultKind.TheVariants.{BadSuccessor}
use Rattle.racp_text.proofs.lemmas.Rows.{IsReadingOn}
use Rattle.racp_sm.proofs.Repeats.{pairs_left}
use Rattle.racp_sm.proofs.rows.read_successors.Given as goal

abbrev pub invariant-loop : goal.invariant-loop
invariant-loop l = IsReadingOn (KeepsMore (λ arcs. arcs.items) l.fn.arcs) (with_each l.job (next_numbers l.fn.words.title BadSuccessor 1 l.jobs l.count l.fn.words.words)) (pairs_left l.fn.words.title l.jobs l.job l.count) l.words.words l.counter l.kept × IsSameStream l.fn.words l.words
