use Rattle.racp_soonest.proofs.Spans.{closed_known, closed_none, known_in, soonest_at}
use Rattle.racp_soonest.proofs.making.soonest_of.Goals as goal

pub own_answer-requires-clause-none_sooner : goal.own_answer-requires-clause-none_sooner
own_answer-requires-clause-none_sooner g c = λ κs held. closed_none c.args.task.now.net.now c.args.task.now.order.now c.args.span c.requires.span c.requires.closed c.in-None.is

pub returns-in_ok-known_plan-in-Some-clause-answer : goal.returns-in_ok-known_plan-in-Some-clause-answer
returns-in_ok-known_plan-in-Some-clause-answer g c =
    let p = c.args.task.now.net.now in
    let terms = c.args.task.now.order.now in
    soonest_at p terms c.in_ok-known_plan-in-Some.field-0 c.in-Some.known (known_in p terms c.args.span c.in-Some.known c.requires.span c.in-Some.is).0 (closed_known p terms c.args.span c.in-Some.known c.requires.span c.requires.closed c.in-Some.is) c.in_ok-known_plan-in-Some.ensures.plan
