use Rattle.std.proofs.Common.{inl, inr}
use Rattle.std.proofs.lemmas.Result.{IfOk-weaker}
use Rattle.racp_cli.proofs.Planning.{line_refused}
use Rattle.racp_cli.proofs.prove.answer_until.Goals as goal

pub returns-in-Ok : goal.returns-in-Ok
returns-in-Ok g c = inl c.in-Ok.ensures

pub returns-in-Err : goal.returns-in-Err
returns-in-Err g c =
    IfOk-weaker c.refused.result _ _ (λ answer told. inr (line_refused _ _ c.in-Err.refusal answer.0 answer.1.items c.in-Err.ensures told)) c.refused.ensures
