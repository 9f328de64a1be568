use Rattle.racp_curve.proofs.Muting.{work_heard}
use Rattle.racp_curve.proofs.facts.Facts.feasible.Goals as goal

pub feasible-requires-clause-may : goal.feasible-requires-clause-may
feasible-requires-clause-may g c = λ news is. work_heard g.A.Observer.may_hear c.requires.told news
