use Rattle.racp_links.proofs.ToldOfPhases.{first_is_told}
use Rattle.racp_links.proofs.laws.first_unspread_is_told.Goals as goal

pub returns : goal.returns
returns c = first_is_told
