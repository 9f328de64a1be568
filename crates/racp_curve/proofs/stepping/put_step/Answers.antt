use Rattle.std.proofs.Common.{◌≡◌, ◌≤◌, ◌∷◌, arith}
use Rattle.racp_curve.specs.Following.{step_of}
use Rattle.racp_curve.proofs.Growing.{plan_enough, plan_ends, next_within, begun, stopped_begun}
use Rattle.racp_curve.proofs.stepping.put_step.Goals as goal

pub end_of-begin-requires-clause-ends : goal.end_of-begin-requires-clause-ends
end_of-begin-requires-clause-ends g c = plan_ends c.args.ground.now.net.now c.args.ground.now.order.now c.args.plan c.args.steps.now.items c.requires.next

pub shorten-requires-clause-end : goal.shorten-requires-clause-end
shorten-requires-clause-end g c = omega (arith, c.end_of-begin.ensures.within, next_within c.args.ground.now.net.now c.args.ground.now.order.now c.args.plan c.args.steps.now.items c.requires.next)

pub shorten-requires-clause-planned : goal.shorten-requires-clause-planned
shorten-requires-clause-planned g c = (c.args.plan.deadline, c.end_of-begin.ensures.within, c.requires.next.plan_is.is_plan.vector)

pub shorten-requires-clause-enough : goal.shorten-requires-clause-enough
shorten-requires-clause-enough g c = plan_enough c.args.ground.now.net.now c.args.ground.now.order.now c.args.plan c.args.steps.now.items c.end_of-begin.result c.requires.next c.end_of-begin.ensures.ends

pub returns-in_ok-put_first-in-Ok-clause-begun : goal.returns-in_ok-put_first-in-Ok-clause-begun
returns-in_ok-put_first-in-Ok-clause-begun g c =
    let plan = c.args.plan in
    let end = c.shorten.new.end in
    let within : end ≤ plan.deadline = omega (arith, c.shorten.ensures.sooner, c.end_of-begin.ensures.within) in
    let put : c.put_first.new.steps.items ≡ step_of plan end ∷ c.args.steps.now.items = cc (c.in_ok-put_first-in-Ok.ensures.put, c.step_of.ensures) in
    begun c.args.ground.now.net.now c.args.ground.now.order.now plan c.args.steps.now.items c.requires.next end within c.shorten.ensures.enough c.put_first.new.steps.items put c.in-Ok.ensures.shortest

pub returns-in_ok-put_first-in-Err-clause-stop : goal.returns-in_ok-put_first-in-Err-clause-stop
returns-in_ok-put_first-in-Err-clause-stop g c =
    let plan = c.args.plan in
    let end = c.shorten.new.end in
    let within : end ≤ plan.deadline = omega (arith, c.shorten.ensures.sooner, c.end_of-begin.ensures.within) in
    let put : c.put_first-in-Err.new.steps.items ≡ step_of plan end ∷ c.args.steps.now.items = cc (c.in_ok-put_first-in-Err.ensures.put, c.step_of-in-Err.ensures) in
    stopped_begun c.args.ground.now.net.now c.args.ground.now.order.now plan c.args.steps.now.items c.requires.next end within c.shorten.ensures.enough (g.A.Asker.may_stop c.shorten.new.asker) (g.A.Asker.may_want_thread c.shorten.new.asker) c.put_first-in-Err.new.steps.items c.in-Err.stop put
    c.in-Err.ensures.stop
