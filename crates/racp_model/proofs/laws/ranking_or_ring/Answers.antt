use Rattle.racp_model.proofs.Rings.{ranking_or_ring, never_both}
use Rattle.racp_model.proofs.laws.ranking_or_ring.Goals as goal

pub returns : goal.returns
returns c = λ p numbers. (ranking_or_ring p numbers, never_both p)
