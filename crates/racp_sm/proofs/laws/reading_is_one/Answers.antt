use Rattle.racp_sm.proofs.Answering.{reading_one}
use Rattle.racp_sm.proofs.laws.reading_is_one.Goals as goal

pub returns : goal.returns
returns c = reading_one c.relation_is_network.ensures c.ranking_or_ring.ensures
