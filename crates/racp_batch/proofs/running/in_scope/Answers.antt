use Rattle.racp_batch.proofs.running.in_scope.Goals as goal

pub returns : goal.returns
returns g c = c.scoped.ensures.1
