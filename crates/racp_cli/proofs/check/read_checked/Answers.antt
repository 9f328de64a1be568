use Rattle.std.proofs.Common.{rules}
use Rattle.std.proofs.lemmas.Result.{err_from_is_err_and}
use Rattle.racp_lexfix.specs.Printing.{AreTextsOf}
use Rattle.racp_cli.specs.Checks.{AreRead}
use Rattle.racp_cli.proofs.Checking.{plan_refused, plan_wrong}
use Rattle.racp_cli.proofs.check.read_checked.Goals as goal

pub returns-in_err-plan : goal.returns-in_err-plan
returns-in_err-plan c =
    let are : AreTextsOf c.args.net.now c.args.order.now c.in_ok-net.net c.in_ok-order.order = search rules in
    let p = err_from_is_err_and c.from_residual-in_err-plan.result c.from_residual-in_err-plan.ensures.1 in
    rw p.1 (plan_refused c.args.net.now c.args.order.now c.args.plan.now c.in_ok-net.net c.in_ok-order.order c.in_err-plan.field-0.0 p.0 are c.in_err-plan.ensures p.2)

pub returns-in-Err : goal.returns-in-Err
returns-in-Err c =
    let are : AreTextsOf c.args.net.now c.args.order.now c.in_ok-net.net c.in_ok-order.order = search rules in
    let read : AreRead c.args.net.now c.args.order.now c.args.plan.now c.in_ok-net.net c.in_ok-order.order c.in_ok-plan.plan = record { are_terms = are; is_plan = c.in_ok-plan.ensures } in
    plan_wrong c.args.net.now c.args.order.now c.args.plan.now c.in_ok-net.net c.in_ok-order.order c.in_ok-plan.plan c.in-Err.fault read c.in-Err.ensures
