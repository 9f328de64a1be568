use Rattle.std.proofs.Common.{None, inl}
use Rattle.std.proofs.lemmas.Result.{IfOk-weaker}
use Rattle.racp_cli.specs.WhatIfAnswers.{IsBesideNamed, IsWhatIfAnswer}
use Rattle.racp_cli.proofs.whatif.beside_own.Goals as goal

pub returns-in-Ok : goal.returns-in-Ok
returns-in-Ok g c =
    IfOk-weaker c.named.result
    (λ answer. IsBesideNamed c.args.crew.now.turns (g.P.Stop.is_quiet c.args.crew.now.stop.now) c.args.texts.is_json c.in-Ok.net c.in-Ok.order None c.args.texts.names.now answer.0 answer.1.items)
    (λ answer. IsWhatIfAnswer c.args.crew.now.turns (g.P.Stop.is_quiet c.args.crew.now.stop.now) c.args.texts.is_json c.args.texts.net.now c.args.texts.order.now None c.args.texts.names.now answer.0 answer.1.items)
    (λ answer told. inl (c.in-Ok.net, c.in-Ok.order, c.in-Ok.ensures.read, told)) c.named.ensures
