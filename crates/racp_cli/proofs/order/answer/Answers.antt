use Rattle.std.proofs.Common.{inl, inr}
use Rattle.std.proofs.lemmas.Result.{IfOk-weaker}
use Rattle.racp_cli.proofs.Planning.{network_line}
use Rattle.racp_cli.proofs.order.answer.Goals as goal

pub returns-in-Ok : goal.returns-in-Ok
returns-in-Ok c = IfOk-weaker c.order_for.result _ _ (λ answer right. inl (c.in-Ok.net, c.in-Ok.ensures, right)) c.order_for.ensures

pub returns-in-Err : goal.returns-in-Err
returns-in-Err c =
    IfOk-weaker c.network_refused.result _ _ (λ answer refused. inr (inl (network_line _ c.in-Err.fault answer.0 answer.1.items c.in-Err.ensures refused))) c.network_refused.ensures
