use Rattle.racp_by_questions.proofs.Halves.{width}
use Rattle.racp_by_questions.proofs.halving.+search.Given as goal

abbrev pub decreases-search : goal.decreases-search
decreases-search g l = width l.subject.now.net.now l.span
