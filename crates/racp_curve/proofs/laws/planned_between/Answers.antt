use Rattle.racp_curve.proofs.Deadlines as lemmas
use Rattle.racp_curve.proofs.laws.planned_between.Goals as goal

pub returns : goal.returns
returns c = lemmas.planned_between
