use Rattle.racp_model.proofs.lemmas.Orders.{lex_first}
use Rattle.racp_model.proofs.laws.lex_is_by_first_place.Goals as goal

pub returns : goal.returns
returns c = lex_first
