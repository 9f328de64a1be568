use Rattle.racp_model.proofs.lemmas.Orders.{vectors_ordered}
use Rattle.racp_model.proofs.laws.vectors_are_ordered.Goals as goal

pub returns : goal.returns
returns c = vectors_ordered
