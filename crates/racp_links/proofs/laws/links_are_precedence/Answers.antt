use Rattle.racp_links.proofs.Kept.{are_precedence}
use Rattle.racp_links.proofs.laws.links_are_precedence.Goals as goal

pub returns : goal.returns
returns c = are_precedence
