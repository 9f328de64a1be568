use Rattle.racp_sm.specs.Parts.{request_rows}
use Rattle.racp_sm.specs.Steps.{IsSameStream}
use Rattle.racp_text.specs.Kept.{Keeps}
use Rattle.racp_text.proofs.lemmas.Rows.{IsReadingOn}
use Rattle.racp_sm.proofs.Repeats.{jobs_left}
use Rattle.racp_sm.proofs.rows.read_jobs.Given as goal

abbrev pub invariant-loop-i : goal.invariant-loop-i
invariant-loop-i l = IsReadingOn (Keeps (λ jobs. jobs.items)) (request_rows l.fn.words.title l.resources 1 l.count l.fn.words.words) (jobs_left l.fn.words.title l.resources l.count) l.words.words l.i l.jobs × IsSameStream l.fn.words l.words
