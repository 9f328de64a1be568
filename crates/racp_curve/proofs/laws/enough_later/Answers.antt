use Rattle.racp_curve.proofs.Deadlines as lemmas
use Rattle.racp_curve.proofs.laws.enough_later.Goals as goal

pub returns : goal.returns
returns c = lemmas.enough_later
