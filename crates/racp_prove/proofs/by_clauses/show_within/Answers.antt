use Rattle.std.proofs.Common.{subst}
use Rattle.racp_model.specs.Plan.{NoneIsEnough}
use Rattle.racp_found.specs.Finds.{IsFound}
use Rattle.racp_prove.proofs.by_clauses.show_within.Goals as goal

pub plan_of-plan-requires-clause-plan : goal.plan_of-plan-requires-clause-plan
plan_of-plan-requires-clause-plan g c = subst (IsFound c.args.task.now.net.now c.args.task.now.order.now) c.in-Plan.is c.in_ok-found.ensures

pub answer_none-requires-clause-answer : goal.answer_none-requires-clause-answer
answer_none-requires-clause-answer g c =
    let none : NoneIsEnough c.args.task.now.net.now c.args.task.now.order.now = subst (IsFound c.args.task.now.net.now c.args.task.now.order.now) c.in-NoneEnough.is c.in_ok-found.ensures in
    record { in_time = (c.args.window.now.lower, c.requires.window.early, c.requires.window.ends); none = none }

pub answer_none-requires-clause-none : goal.answer_none-requires-clause-none
answer_none-requires-clause-none g c = λ plan is. absurd (cc is)
