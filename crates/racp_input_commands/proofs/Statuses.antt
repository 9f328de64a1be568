-- The status of what is written as an order is that of an answer.
use Rattle.std.proofs.Common.{ℕ, List, [], ◌∷◌, Option, Ok, Err, IfOk, inl}
use Rattle.std.specs.Prelude.{Result}
use Rattle.racp_streams.specs.Streams.{Reader, ToOne}
use Rattle.racp_streams.specs.declared.fault.StreamFault.{StreamFault}
use Rattle.racp_cli.specs.OrderAnswers.{IsOrderAnswer, IsOrderRun}
use Rattle.racp_cli.specs.declared.order.Asked.{Asked}
use Rattle.racp_input_commands.specs.Statuses.{IsStatusOfInput}

-- what is written as an order
of_order : (asked : Asked) (inputs : List (List ℕ)) (status : ℕ) (text : List ℕ) → ToOne (IsOrderAnswer asked) inputs status text → IsStatusOfInput status
of_order asked [] status text answer = absurd answer
of_order asked (net ∷ []) status text answer = inl (asked, net, text, answer)
of_order asked (net ∷ (other ∷ inputs)) status text answer = absurd answer

pub ordered : (asked : Asked) (net : Reader) (old new : Option (List ℕ)) (result : Result ℕ StreamFault) → IsOrderRun asked net old new result → IfOk result IsStatusOfInput
ordered asked net old new (Ok status) run = of_order asked run.0 status run.2.0 run.2.1
ordered asked net old new (Err fault) run = tt
