use Rattle.std.proofs.Common.{◌∙◌}
use Rattle.racp_desk.proofs.running.fn.in_scope.scope.Goals as goal

pub returns : goal.returns
returns g c = c.join_all.ensures ∙ c.in_ok-started.ensures
