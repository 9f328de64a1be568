use Rattle.std.proofs.Common.{◌∙◌, IfOk, ap, inl, subst}
use Rattle.std.specs.Prelude.{Result, IfErr}
use Rattle.std.proofs.lemmas.Result.{IfOk-weaker}
use Rattle.racp_model.specs.Terms.{Terms}
use Rattle.racp_by_questions.specs.Crowds.{MayStop}
use Rattle.racp_soonest.specs.Soonest.{IsSoonestAnswer, IsSoonestStop}
use Rattle.racp_soonest.specs.Teams.{order_of_team}
use Rattle.racp_soonest.specs.Texts.{soonest_text}
use Rattle.racp_soonest.specs.declared.soonest.Soonest.{Soonest}
use Rattle.racp_soonest.specs.declared.soonest.SoonestStop.{SoonestStop}
use Rattle.racp_cli.specs.SoonestAnswers.{IsStoppedSoonest, IsToldSoonest}
use Rattle.racp_cli.proofs.Hastening.{span_told}
use Rattle.racp_cli.proofs.soonest.told.Goals as goal

pub returns-in_ok-text-in-Ok : goal.returns-in_ok-text-in-Ok
returns-in_ok-text-in-Ok c = λ network turns quiet right stopped.
    let terms = c.args.order.now in
    let is = subst (λ (found : Result Soonest SoonestStop). IfOk found (IsSoonestAnswer network (order_of_team terms))) c.in-Ok.is right in
    inl (record { soonest = c.in-Ok.soonest; right = is; with_text = c.in_ok-text-in-Ok.ensures ∙ ap (λ (t : Terms). soonest_text t.deadline c.in-Ok.soonest) c.order.view_is; with_status = c.status_of.ensures })

pub returns-in-Err : goal.returns-in-Err
returns-in-Err c = λ network turns quiet right stopped.
    let terms = c.args.order.now in
    let is = subst (λ (found : Result Soonest SoonestStop). IfErr found (IsSoonestStop network (order_of_team terms) (MayStop network quiet turns))) c.in-Err.is stopped in
    IfOk-weaker c.ended.result (λ answer. IsStoppedSoonest c.in-Err.field-0.span c.in-Err.field-0.stop answer.0 answer.1.items) (λ answer. IsToldSoonest turns quiet network terms answer.0 answer.1.items)
    (λ answer told. span_told turns quiet network terms c.in-Err.field-0.span c.in-Err.field-0.stop answer.0 answer.1.items is.span is.reason told) c.ended.ensures
