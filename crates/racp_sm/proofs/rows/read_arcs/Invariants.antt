use Rattle.racp_sm.specs.Parts.{successor_rows}
use Rattle.racp_sm.specs.Steps.{IsSameStream}
use Rattle.racp_text.specs.Kept.{Keeps}
use Rattle.racp_text.proofs.lemmas.Rows.{IsReadingOn}
use Rattle.racp_sm.proofs.Repeats.{arcs_left}
use Rattle.racp_sm.proofs.rows.read_arcs.Given as goal

abbrev pub invariant-loop-i : goal.invariant-loop-i
invariant-loop-i l = IsReadingOn (Keeps (λ arcs. arcs.items)) (successor_rows l.fn.words.title l.jobs 1 l.jobs l.fn.words.words) (arcs_left l.fn.words.title l.jobs) l.words.words l.i l.arcs × IsSameStream l.fn.words l.words
