use Rattle.racp_curve.proofs.SomeCurve as lemmas
use Rattle.racp_curve.proofs.laws.curve_exists.Goals as goal

pub returns : goal.returns
returns c = lemmas.some_curve c.answer_exists.ensures
