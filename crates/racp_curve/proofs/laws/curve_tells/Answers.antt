use Rattle.racp_curve.proofs.Telling as lemmas
use Rattle.racp_curve.proofs.laws.curve_tells.Goals as goal

pub returns : goal.returns
returns c = lemmas.curve_tells
