use Rattle.racp_curve.proofs.Telling.{stopped_first}
use Rattle.racp_curve.proofs.following.curve_with.Goals as goal

pub returns-in-Err-clause-stop : goal.returns-in-Err-clause-stop
returns-in-Err-clause-stop g c =
    stopped_first c.args.ground.now.net.now c.args.ground.now.order.now (g.A.Asker.may_stop c.first_plan.new.asker) (g.A.Asker.may_want_thread c.first_plan.new.asker) c.new-steps.result.items c.in-Err.stop c.new-steps.ensures.items
    c.in-Err.ensures.stop
