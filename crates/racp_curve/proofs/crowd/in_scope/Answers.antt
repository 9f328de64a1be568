use Rattle.racp_curve.proofs.crowd.in_scope.Goals as goal

pub returns : goal.returns
returns g c = c.scoped.ensures.1
