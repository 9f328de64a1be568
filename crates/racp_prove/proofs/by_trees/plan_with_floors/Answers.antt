use Rattle.racp_prove.proofs.Certified.{planning_ends}
use Rattle.racp_prove.proofs.by_trees.plan_with_floors.Goals as goal

pub returns-clause-stop : goal.returns-clause-stop
returns-clause-stop g c = planning_ends _ g.M.OfTurns.quiet c.plan_after-planned.result c.plan_after-planned.ensures.stop
