use Rattle.racp_curve.proofs.crowd.fn.in_scope.scope+FnOnce.call_once.Goals as goal

pub returns : goal.returns
returns g c = c.scope.ensures
