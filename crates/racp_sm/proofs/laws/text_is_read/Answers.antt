use Rattle.racp_sm.proofs.Answering.{text_read}
use Rattle.racp_sm.proofs.laws.text_is_read.Goals as goal

pub returns : goal.returns
returns c = text_read c.ranking_or_ring.ensures c.acyclic_has_network.ensures
