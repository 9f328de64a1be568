use Rattle.std.proofs.Common.{inl, inr}
use Rattle.std.proofs.lemmas.Result.{IfOk-weaker}
use Rattle.racp_cli.specs.CurveAnswers.{IsTextOfReason}
use Rattle.racp_cli.specs.WhatIfAnswers.{IsBesideOwn}
use Rattle.racp_cli.proofs.beside.beside_answer.Goals as goal

pub returns-in_default : goal.returns-in_default
returns-in_default g c =
    let network = c.args.task.now.net.now in
    let terms = c.args.task.now.order.now in
    IfOk-weaker c.reason_told.result (λ answer. IsTextOfReason network terms answer.0 answer.1.items)
    (λ answer. IsBesideOwn c.args.crew.now.turns (g.P.Stop.is_quiet c.args.crew.now.stop.now) c.args.is_json network terms c.args.names.now answer.0 answer.1.items)
    (λ answer told. inr (inl told)) (c.reason_told.ensures network c.requires.answer)
