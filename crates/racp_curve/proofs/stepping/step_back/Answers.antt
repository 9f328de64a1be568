use Rattle.std.proofs.Common.{◌≡◌, ◌+◌, arith}
use Rattle.std.proofs.lemmas.Result.{IfErr-weaker, IfOk-weaker}
use Rattle.racp_by_questions.specs.Stops.{IsPlanStop}
use Rattle.racp_found.specs.declared.observer.News.TheVariants.{Work}
use Rattle.racp_curve.specs.Curves.{order_by, AreNotAfterEnough, IsCurveStop}
use Rattle.racp_curve.specs.Following.{IsFollowed, IsPlanOrNone}
use Rattle.racp_curve.proofs.Growing.{begun_within, followed, followed_whole, stopped_before}
use Rattle.racp_curve.proofs.stepping.step_back.Goals as goal

pub put_step-requires-clause-told : goal.put_step-requires-clause-told
put_step-requires-clause-told g c = λ conflicts clauses.
    c.requires.hears c.args.ground.now.order.now.deadline (omega arith) (Work conflicts clauses) tt

pub plan_by-requires-clause-deadline : goal.plan_by-requires-clause-deadline
plan_by-requires-clause-deadline g c =
    let one : c.in-Some.deadline + 1 ≡ c.in_ok-begin.begin = omega (arith, c.in-Some.ensures) in
    begun_within c.args.ground.now.net.now c.args.ground.now.order.now c.put_step.new.steps.items c.in_ok-begin.begin c.in-Some.deadline c.in_ok-begin.ensures.begun one

pub returns-in-Some-clause-followed : goal.returns-in-Some-clause-followed
returns-in-Some-clause-followed g c =
    let p = c.args.ground.now.net.now in
    let terms = c.args.ground.now.order.now in
    let one : c.in-Some.deadline + 1 ≡ c.in_ok-begin.begin = omega (arith, c.in-Some.ensures) in
    IfOk-weaker c.plan_by.result (IsPlanOrNone p (order_by c.in-Some.deadline terms)) (IsFollowed p terms c.args.plan.deadline c.put_step.new.steps.items)
    (λ found is. followed p terms c.put_step.new.steps.items c.in_ok-begin.begin c.in-Some.deadline c.args.plan.deadline found c.in_ok-begin.ensures.begun one c.in_ok-begin.ensures.within is) c.plan_by.ensures.plan

pub returns-in-Some-clause-stop : goal.returns-in-Some-clause-stop
returns-in-Some-clause-stop g c =
    let p = c.args.ground.now.net.now in
    let terms = c.args.ground.now.order.now in
    let may_stop = g.A.Asker.may_stop c.plan_by.new.asker in
    let may_want_thread = g.A.Asker.may_want_thread c.plan_by.new.asker in
    let one : c.in-Some.deadline + 1 ≡ c.in_ok-begin.begin = omega (arith, c.in-Some.ensures) in
    IfErr-weaker c.plan_by.result (IsPlanStop (AreNotAfterEnough p terms (c.in-Some.deadline + 1)) may_stop may_want_thread) (IsCurveStop p terms may_stop may_want_thread c.put_step.new.steps.items)
    (λ stop h. stopped_before p terms may_stop may_want_thread c.put_step.new.steps.items c.in_ok-begin.begin c.in-Some.deadline stop c.in_ok-begin.ensures.begun one h) c.plan_by.ensures.stop

pub returns-in-None-clause-followed : goal.returns-in-None-clause-followed
returns-in-None-clause-followed g c =
    let none : c.in_ok-begin.begin ≡ 0 = omega (arith, c.in-None.ensures) in
    followed_whole c.args.ground.now.net.now c.args.ground.now.order.now c.put_step.new.steps.items c.in_ok-begin.begin c.args.plan.deadline c.in_ok-begin.ensures.begun none
