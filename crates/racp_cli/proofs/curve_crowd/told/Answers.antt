use Rattle.std.proofs.Common.{IfOk, inl, subst, List}
use Rattle.std.specs.Prelude.{Result, IfErr, ⊤}
use Rattle.std.proofs.lemmas.Result.{IfOk-weaker}
use Rattle.racp_by_questions.specs.Crowds.{MayStop}
use Rattle.racp_curve.specs.Curves.{IsCurveAnswer, IsCurveStop}
use Rattle.racp_curve.specs.declared.step.CurveAnswer.{CurveAnswer}
use Rattle.racp_curve.specs.declared.step.CurveStop.{CurveStop}
use Rattle.racp_curve.specs.declared.step.Step.{Step}
use Rattle.racp_cli.specs.CurveAnswers.{IsToldByCrowd, IsToldCurve}
use Rattle.racp_cli.specs.Responses.{IsEndedText}
use Rattle.racp_cli.proofs.Ending.{ended_told}
use Rattle.racp_cli.proofs.curve_crowd.told.Goals as goal

pub returns-in-Ok : goal.returns-in-Ok
returns-in-Ok c = λ network turns quiet right stopped.
    IfOk-weaker c.curve_answer.result (λ answer. IsToldCurve c.args.form network c.args.order.now answer.0 answer.1.items) (λ answer. IsToldByCrowd turns quiet c.args.form network c.args.order.now answer.0 answer.1.items)
    (λ answer told. inl told) (c.curve_answer.ensures network (subst (λ (curve : Result CurveAnswer CurveStop). IfOk curve (IsCurveAnswer network c.args.order.now)) c.in-Ok.is right))

pub returns-in-Err : goal.returns-in-Err
returns-in-Err c = λ network turns quiet right stopped.
    let is_stop = subst (λ (curve : Result CurveAnswer CurveStop). IfErr curve (λ end. IsCurveStop network c.args.order.now (MayStop network quiet turns) ⊤ end.steps.items end.stop)) c.in-Err.is stopped in
    let told = subst (λ (steps : List Step). IfOk c.ended_answer.result (λ answer. IsEndedText c.args.form steps c.in-Err.field-0.stop answer.0 answer.1.items)) c.deref.ensures.value c.ended_answer.ensures in
    IfOk-weaker c.ended_answer.result (λ answer. IsEndedText c.args.form c.in-Err.field-0.steps.items c.in-Err.field-0.stop answer.0 answer.1.items) (λ answer. IsToldByCrowd turns quiet c.args.form network c.args.order.now answer.0 answer.1.items)
    (λ answer ended. ended_told turns quiet c.args.form network c.args.order.now c.in-Err.field-0.steps.items c.in-Err.field-0.stop answer.0 answer.1.items is_stop ended) told
