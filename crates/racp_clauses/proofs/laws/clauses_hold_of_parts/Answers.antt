use Rattle.racp_clauses.proofs.Rooting.{holds-of_parts}
use Rattle.racp_clauses.proofs.laws.clauses_hold_of_parts.Goals as goal

pub returns : goal.returns
returns c = holds-of_parts
