use Rattle.std.proofs.Common.{inl}
use Rattle.std.proofs.lemmas.Result.{IfOk-weaker}
use Rattle.racp_cli.specs.CurveAnswers.{IsCurveCrowdAnswer, IsToldByCrowd}
use Rattle.racp_cli.proofs.curve_crowd.answer.Goals as goal

pub returns-in-Ok : goal.returns-in-Ok
returns-in-Ok g c =
    IfOk-weaker c.told.result (λ answer. IsToldByCrowd c.args.crew.turns (g.P.Stop.is_quiet c.args.crew.stop.now) c.args.form c.in-Ok.net c.in-Ok.order answer.0 answer.1.items) (λ answer. IsCurveCrowdAnswer c.args.crew.turns (g.P.Stop.is_quiet c.args.crew.stop.now) c.args.form c.args.net.now c.args.order.now answer.0 answer.1.items)
    (λ answer told. inl (c.in-Ok.net, c.in-Ok.order, c.in-Ok.ensures.read, told)) (c.told.ensures c.in-Ok.net c.args.crew.turns (g.P.Stop.is_quiet c.args.crew.stop.now) c.curve_crowd-curve.ensures.curve c.curve_crowd-curve.ensures.stop)
