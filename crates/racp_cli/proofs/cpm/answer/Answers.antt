use Rattle.racp_cli.proofs.Answering.{answers_network, answers_refusal}
use Rattle.std.proofs.lemmas.Result.{IfOk-weaker}
use Rattle.racp_cli.proofs.cpm.answer.Goals as goal

pub returns-in_ok-early_answer-in-Ok : goal.returns-in_ok-early_answer-in-Ok
returns-in_ok-early_answer-in-Ok c = answers_network _ _ _ c.in-Ok.ensures c.in_ok-early_answer-in-Ok.ensures

pub returns-in-Err : goal.returns-in-Err
returns-in-Err c =
    IfOk-weaker c.network_refused.result _ _ (λ answer refused. answers_refusal _ c.in-Err.fault answer.0 answer.1.items c.in-Err.ensures refused) c.network_refused.ensures
