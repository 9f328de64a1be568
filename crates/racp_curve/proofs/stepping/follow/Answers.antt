use Rattle.racp_curve.proofs.Growing.{followed_some, followed_none}
use Rattle.racp_curve.proofs.stepping.follow.Goals as goal

pub plans-preserved : goal.plans-preserved
plans-preserved g c = record {
  network = c.step_back.ensures.network;
  next = (followed_some c.args.ground.now.net.now c.args.ground.now.order.now c.plans.plan.deadline c.step_back.new.steps.items c.in_ok-earlier.field-0 c.in-Some.earlier c.in_ok-earlier.ensures.followed c.in-Some.is).0;
}

pub plans-smaller : goal.plans-smaller
plans-smaller g c =
    (followed_some c.args.ground.now.net.now c.args.ground.now.order.now c.plans.plan.deadline c.step_back.new.steps.items c.in_ok-earlier.field-0 c.in-Some.earlier c.in_ok-earlier.ensures.followed c.in-Some.is).1

pub returns-in-None-clause-curve : goal.returns-in-None-clause-curve
returns-in-None-clause-curve g c =
    followed_none c.args.ground.now.net.now c.args.ground.now.order.now c.plans.plan.deadline c.step_back.new.steps.items c.in_ok-earlier.field-0 c.in_ok-earlier.ensures.followed c.in-None.is
