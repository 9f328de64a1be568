use Rattle.racp_model.proofs.lemmas.Relations.{same_network}
use Rattle.racp_model.proofs.laws.relation_is_network.Goals as goal

pub returns : goal.returns
returns c = same_network
