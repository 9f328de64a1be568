use Rattle.std.proofs.Common.{List, sym, subst, arith}
use Rattle.racp_curve.specs.declared.step.Step.{Step}
use Rattle.racp_curve.specs.Following.{IsNext}
use Rattle.racp_curve.proofs.Growing.{next_first, curve_some}
use Rattle.racp_curve.proofs.following.curve_from.Goals as goal

pub hear-requires : goal.hear-requires
hear-requires g c =
    let plan = c.requires.plan.is_plan in
    c.requires.hears c.args.ground.now.order.now.deadline (omega arith) _ (record { places = plan.vector.is.places; ceilings = plan.vector.is.ceilings; fits = plan.schedule.is }, c.requires.plan.cost)

pub follow-requires-clause-next : goal.follow-requires-clause-next
follow-requires-clause-next g c = subst (λ (steps : List Step). IsNext c.args.ground.now.net.now c.args.ground.now.order.now c.args.plan steps) (sym c.new-steps.ensures.items) (next_first c.args.ground.now.net.now c.args.ground.now.order.now c.args.plan c.requires.plan)

pub returns-in-Ok-clause-curve : goal.returns-in-Ok-clause-curve
returns-in-Ok-clause-curve g c =
    (c.in-Ok.ensures.curve, curve_some c.args.ground.now.net.now c.args.ground.now.order.now c.follow.new.steps.items c.args.plan.capacities c.in-Ok.ensures.curve c.requires.plan.is_plan.vector.is)

pub returns-in-Err-clause-stop : goal.returns-in-Err-clause-stop
returns-in-Err-clause-stop g c = c.in-Err.ensures.stop
