use Rattle.racp_model.proofs.lemmas.Cuts.{cut_admitting}
use Rattle.racp_model.proofs.laws.cut_admits.Goals as goal

pub returns : goal.returns
returns c = cut_admitting
