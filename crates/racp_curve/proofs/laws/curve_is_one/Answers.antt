use Rattle.racp_curve.proofs.OneCurve as lemmas
use Rattle.racp_curve.proofs.laws.curve_is_one.Goals as goal

pub returns : goal.returns
returns c = lemmas.one_curve
