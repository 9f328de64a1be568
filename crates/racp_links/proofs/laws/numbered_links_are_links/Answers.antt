use Rattle.racp_links.proofs.Numbered.{numbered_links_are}
use Rattle.racp_links.proofs.laws.numbered_links_are_links.Goals as goal

pub returns : goal.returns
returns c = numbered_links_are
