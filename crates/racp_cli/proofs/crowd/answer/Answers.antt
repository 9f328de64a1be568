use Rattle.std.proofs.Common.{subst}
use Rattle.std.specs.Prelude.{Result}
use Rattle.std.proofs.lemmas.Result.{IfOk-weaker}
use Rattle.racp_lexfix.specs.Printing.{IsCrowdPrinting, IsCrowdEnd, IsRefusal}
use Rattle.racp_by_questions.specs.declared.crowd.Effort.{Effort}
use Rattle.racp_lexfix.specs.declared.printed.Printed.{Printed}
use Rattle.racp_lexfix.specs.declared.printed.Refusal.{Refusal}
use Rattle.racp_cli.proofs.Planning.{crowd_refused}
use Rattle.racp_cli.proofs.crowd.answer.Goals as goal

pub returns-in-Err-clause-right : goal.returns-in-Err-clause-right
returns-in-Err-clause-right c = λ turns quiet net order printing.
    let is : IsRefusal (IsCrowdEnd turns quiet net order) net order c.in-Err.refusal = subst (λ (planned : Result (Printed × Effort) Refusal). IsCrowdPrinting turns quiet net order planned) c.in-Err.is printing in
    IfOk-weaker c.refused.result _ _ (λ answer told. crowd_refused turns quiet net order c.in-Err.refusal answer.0 answer.1.items is told) c.refused.ensures
