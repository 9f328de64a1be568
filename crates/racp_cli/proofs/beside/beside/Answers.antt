use Rattle.std.proofs.Common.{inl, rules}
use Rattle.std.proofs.lemmas.Result.{IfOk-weaker}
use Rattle.racp_cli.specs.WhatIfAnswers.{IsBeside, IsToldBeside}
use Rattle.racp_cli.proofs.beside.beside.Goals as goal

pub returns-in-Ok : goal.returns-in-Ok
returns-in-Ok g c =
    let network = c.args.task.now.net.now in
    let terms = c.args.task.now.order.now in
    let turns = c.args.crew.now.turns in
    let quiet = g.P.Stop.is_quiet c.args.crew.now.stop.now in
    IfOk-weaker c.told.result (λ answer. IsToldBeside turns quiet c.args.is_json network terms c.args.base.now c.args.names.now answer.0 answer.1.items)
    (λ answer. IsBeside turns quiet c.args.is_json network terms c.args.base.now c.args.names.now answer.0 answer.1.items)
    (λ answer told. inl told) (c.told.ensures turns quiet (search rules))
