use Rattle.racp_links.proofs.LeafLinks.{leaf_links_are}
use Rattle.racp_links.proofs.laws.leaf_links_are_links.Goals as goal

pub returns : goal.returns
returns c = leaf_links_are
