use Rattle.racp_model.proofs.lemmas.Inserting.{some_network}
use Rattle.racp_model.proofs.laws.acyclic_has_network.Goals as goal

pub returns : goal.returns
returns c = some_network
