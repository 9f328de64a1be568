use Rattle.racp_clauses.proofs.lemmas.Solutions.{holds-of_fitting}
use Rattle.racp_clauses.proofs.laws.clauses_hold_of_fitting.Goals as goal

pub returns : goal.returns
returns c = holds-of_fitting
