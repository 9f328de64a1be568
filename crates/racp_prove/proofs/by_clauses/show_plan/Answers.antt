use Rattle.std.proofs.Common.{subst}
use Rattle.racp_root.specs.Openings.{IsOpening}
use Rattle.racp_root.specs.declared.opening.Opening.TheVariants.{Root}
use Rattle.racp_prove.proofs.by_clauses.show_plan.Goals as goal

pub show_within-requires-clause-critical : goal.show_within-requires-clause-critical
show_within-requires-clause-critical g c =
    let opening : IsOpening c.args.task.now.net.now c.args.task.now.order.now (Root c.in-Root.critical c.in-Root.window) = subst (IsOpening c.args.task.now.net.now c.args.task.now.order.now) c.in-Root.is c.in_ok-critical.ensures in
    opening.length

pub show_within-requires-clause-window : goal.show_within-requires-clause-window
show_within-requires-clause-window g c =
    let opening : IsOpening c.args.task.now.net.now c.args.task.now.order.now (Root c.in-Root.critical c.in-Root.window) = subst (IsOpening c.args.task.now.net.now c.args.task.now.order.now) c.in-Root.is c.in_ok-critical.ensures in
    opening.window_is

pub answer_none-requires-clause-answer : goal.answer_none-requires-clause-answer
answer_none-requires-clause-answer g c = subst (IsOpening c.args.task.now.net.now c.args.task.now.order.now) c.in-TooLong.is c.in_ok-critical.ensures

pub answer_none-requires-clause-none : goal.answer_none-requires-clause-none
answer_none-requires-clause-none g c = λ plan is. absurd (cc is)

pub answer_none-requires-in-TooLate-clause-answer : goal.answer_none-requires-in-TooLate-clause-answer
answer_none-requires-in-TooLate-clause-answer g c = subst (IsOpening c.args.task.now.net.now c.args.task.now.order.now) c.in-TooLate.is c.in_ok-critical.ensures

pub answer_none-requires-in-TooLate-clause-none : goal.answer_none-requires-in-TooLate-clause-none
answer_none-requires-in-TooLate-clause-none g c = λ plan is. absurd (cc is)
