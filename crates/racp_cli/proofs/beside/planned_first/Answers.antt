use Rattle.std.proofs.lemmas.Result.{IfOk-weaker}
use Rattle.racp_cli.specs.Responses.{IsStopTold}
use Rattle.racp_cli.specs.WhatIfAnswers.{IsBesideOwn}
use Rattle.racp_cli.proofs.Asking.{stop_beside}
use Rattle.racp_cli.proofs.beside.planned_first.Goals as goal

pub returns-in-Err : goal.returns-in-Err
returns-in-Err g c =
    let network = c.args.task.now.net.now in
    let terms = c.args.task.now.order.now in
    IfOk-weaker c.stop_told.result (λ answer. IsStopTold c.in-Err.stop answer.0 answer.1.items)
    (λ answer. IsBesideOwn c.args.crew.now.turns (g.P.Stop.is_quiet c.args.crew.now.stop.now) c.args.is_json network terms c.args.names.now answer.0 answer.1.items)
    (λ answer told. stop_beside c.args.crew.now.turns (g.P.Stop.is_quiet c.args.crew.now.stop.now) c.args.is_json network terms c.args.names.now c.in-Err.stop answer.0 answer.1.items c.in-Err.ensures.stop told) c.stop_told.ensures
