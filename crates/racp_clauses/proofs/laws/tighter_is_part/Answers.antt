use Rattle.racp_clauses.proofs.Rooting.{tighter-part}
use Rattle.racp_clauses.proofs.laws.tighter_is_part.Goals as goal

pub returns : goal.returns
returns c = tighter-part
