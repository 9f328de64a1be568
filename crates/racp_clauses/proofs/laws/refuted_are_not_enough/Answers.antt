use Rattle.racp_clauses.proofs.lemmas.Solutions.{refuted-not_enough}
use Rattle.racp_clauses.proofs.laws.refuted_are_not_enough.Goals as goal

pub returns : goal.returns
returns c = refuted-not_enough
