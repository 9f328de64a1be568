use Rattle.std.proofs.Common.{◌∙◌, subst, sym}
use Rattle.racp_model.specs.Terms.{Terms}
use Rattle.racp_lexfix.specs.Answers.{IsAnswer}
use Rattle.racp_soonest.proofs.Spans.{not_none}
use Rattle.racp_soonest.proofs.making.known_plan.Goals as goal

pub unreachable-requires : goal.unreachable-requires
unreachable-requires g c =
    let p = c.args.task.now.net.now in
    not_none p c.args.task.now.order.now c.args.deadline c.in_ok-answer.field-0 c.job_count.ensures.sound c.requires.known
    (subst (λ (t : Terms). IsAnswer p t c.in_ok-answer.field-0) c.in_ok-other.ensures c.in_ok-answer.ensures.answer)
    (sym c.plan_in.ensures ∙ c.in-None.is)
