use Rattle.racp_curve.proofs.Telling.{crew_curve, crew_stop}
use Rattle.racp_curve.proofs.crowd.curve_crowd.Goals as goal

pub returns-clause-curve : goal.returns-clause-curve
returns-clause-curve g c = crew_curve _ _ _ c.followed.result c.followed.ensures

pub returns-clause-stop : goal.returns-clause-stop
returns-clause-stop g c = crew_stop _ _ _ c.followed.result c.followed.ensures
