use Rattle.racp_links.proofs.Told.{first_is_told}
use Rattle.racp_links.proofs.laws.first_wrong_is_told.Goals as goal

pub returns : goal.returns
returns c = first_is_told
