use Rattle.racp_curve.proofs.Deadlines as lemmas
use Rattle.racp_curve.proofs.laws.not_enough_sooner.Goals as goal

pub returns : goal.returns
returns c = lemmas.not_enough_sooner
