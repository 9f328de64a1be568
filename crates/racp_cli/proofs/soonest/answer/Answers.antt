use Rattle.std.proofs.Common.{inl}
use Rattle.std.proofs.lemmas.Result.{IfOk-weaker}
use Rattle.racp_cli.specs.SoonestAnswers.{IsSoonestAnswer, IsToldSoonest}
use Rattle.racp_cli.proofs.soonest.answer.Goals as goal

pub returns-in-Ok : goal.returns-in-Ok
returns-in-Ok g c =
    IfOk-weaker c.told_of.result (λ answer. IsToldSoonest c.args.crew.now.turns (g.P.Stop.is_quiet c.args.crew.now.stop.now) c.in-Ok.net c.in-Ok.order answer.0 answer.1.items)
    (λ answer. IsSoonestAnswer c.args.crew.now.turns (g.P.Stop.is_quiet c.args.crew.now.stop.now) c.args.net.now c.args.order.now answer.0 answer.1.items)
    (λ answer told. inl (c.in-Ok.net, c.in-Ok.order, c.in-Ok.ensures.read, told)) c.told_of.ensures
