-- The status of what is told of a plan is that of an answer.
use Rattle.std.proofs.Common.{◌≡◌, ℕ, Bool, List, [], ◌∷◌, Option, Ok, Err, IfOk, inl, inr, subst}
use Rattle.std.specs.Prelude.{Result}
use Rattle.racp_cli.specs.Verifies.{IsVerifyAnswerUntil}
use Rattle.racp_cli.specs.VerifyBounds.{IsBoundAnswer, IsBoundRun}
use Rattle.racp_streams.specs.Streams.{Reader, ToThree}
use Rattle.racp_cli.specs.Runs.{IsVerifyRunUntil}
use Rattle.racp_streams.specs.declared.fault.StreamFault.{StreamFault}
use Rattle.racp_cli.specs.ExportAnswers.{IsExportAnswer, IsExportRun}
use Rattle.racp_cli.specs.ReportAnswers.{IsReportAnswer, IsReportRun}
use Rattle.racp_cli.specs.ShowAnswers.{IsShowAnswer, IsShowRun}
use Rattle.racp_cli.specs.declared.export.Target.{Target}
use Rattle.racp_cli.specs.declared.report.Page.{Page}
use Rattle.racp_cli.specs.declared.show.Look.{Look}
use Rattle.racp_plan_commands.specs.Statuses.{IsStatusOfPlan}

-- what a command came to is what it ended with, if its answer was written
pub ended_as : (T E F : Type 0) (P : T → Type 0) (was : Result T E) (now : Result T F) → IfOk now (λ value. was ≡ Ok value) → IfOk was P → IfOk now P
ended_as T E F P was (Ok value) same right = subst (λ (result : Result T E). IfOk result P) same right
ended_as T E F P was (Err fault) same right = tt

-- what is answered to a certificate
of_certificate : (quiet : Bool) (proof : List ℕ) (inputs : List (List ℕ)) (status : ℕ) (text : List ℕ) → ToThree (λ first second third. IsVerifyAnswerUntil quiet first second third proof) inputs status text → IsStatusOfPlan status
of_certificate quiet proof [] status text answer = absurd answer
of_certificate quiet proof (net ∷ []) status text answer = absurd answer
of_certificate quiet proof (net ∷ (order ∷ [])) status text answer = absurd answer
of_certificate quiet proof (net ∷ (order ∷ (plan ∷ []))) status text answer = inr (inr (inl (quiet, net, order, plan, proof, text, inl answer)))
of_certificate quiet proof (net ∷ (order ∷ (plan ∷ (other ∷ inputs)))) status text answer = absurd answer

pub verified : (quiet : Bool) (proof : List ℕ) (net order plan : Reader) (old new : Option (List ℕ)) (result : Result ℕ StreamFault) → IsVerifyRunUntil quiet proof net order plan old new result → IfOk result IsStatusOfPlan
verified quiet proof net order plan old new (Ok status) run = of_certificate quiet proof run.0 status run.2.0 run.2.1
verified quiet proof net order plan old new (Err fault) run = tt

-- what is answered to one of a bound
of_bound : (quiet : Bool) (inputs : List (List ℕ)) (status : ℕ) (text : List ℕ) → ToThree (IsBoundAnswer quiet) inputs status text → IsStatusOfPlan status
of_bound quiet [] status text answer = absurd answer
of_bound quiet (net ∷ []) status text answer = absurd answer
of_bound quiet (net ∷ (order ∷ [])) status text answer = absurd answer
of_bound quiet (net ∷ (order ∷ (proof ∷ []))) status text answer = inr (inr (inl (quiet, net, order, [], proof, text, inr answer)))
of_bound quiet (net ∷ (order ∷ (proof ∷ (other ∷ inputs)))) status text answer = absurd answer

pub bounded : (quiet : Bool) (net order proof : Reader) (old new : Option (List ℕ)) (result : Result ℕ StreamFault) → IsBoundRun quiet net order proof old new result → IfOk result IsStatusOfPlan
bounded quiet net order proof old new (Ok status) run = of_bound quiet run.0 status run.2.0 run.2.1
bounded quiet net order proof old new (Err fault) run = tt

-- what is shown of a plan
of_picture : (look : Look) (inputs : List (List ℕ)) (status : ℕ) (text : List ℕ) → ToThree (IsShowAnswer look) inputs status text → IsStatusOfPlan status
of_picture look [] status text answer = absurd answer
of_picture look (net ∷ []) status text answer = absurd answer
of_picture look (net ∷ (order ∷ [])) status text answer = absurd answer
of_picture look (net ∷ (order ∷ (plan ∷ []))) status text answer = inr (inr (inr (inl (net, order, plan, text, inl (look, answer)))))
of_picture look (net ∷ (order ∷ (plan ∷ (other ∷ inputs)))) status text answer = absurd answer

pub shown : (look : Look) (net order plan : Reader) (old new : Option (List ℕ)) (result : Result ℕ StreamFault) → IsShowRun look net order plan old new result → IfOk result IsStatusOfPlan
shown look net order plan old new (Ok status) run = of_picture look run.0 status run.2.0 run.2.1
shown look net order plan old new (Err fault) run = tt

-- what is written of a plan for other programs
of_export : (target : Target) (inputs : List (List ℕ)) (status : ℕ) (text : List ℕ) → ToThree (IsExportAnswer target) inputs status text → IsStatusOfPlan status
of_export target [] status text answer = absurd answer
of_export target (net ∷ []) status text answer = absurd answer
of_export target (net ∷ (order ∷ [])) status text answer = absurd answer
of_export target (net ∷ (order ∷ (plan ∷ []))) status text answer = inr (inr (inr (inl (net, order, plan, text, inr (target, answer)))))
of_export target (net ∷ (order ∷ (plan ∷ (other ∷ inputs)))) status text answer = absurd answer

pub exported : (target : Target) (net order plan : Reader) (old new : Option (List ℕ)) (result : Result ℕ StreamFault) → IsExportRun target net order plan old new result → IfOk result IsStatusOfPlan
exported target net order plan old new (Ok status) run = of_export target run.0 status run.2.0 run.2.1
exported target net order plan old new (Err fault) run = tt

-- what is reported of a plan
of_report : (page : Page) (inputs : List (List ℕ)) (status : ℕ) (text : List ℕ) → ToThree (IsReportAnswer page) inputs status text → IsStatusOfPlan status
of_report page [] status text answer = absurd answer
of_report page (net ∷ []) status text answer = absurd answer
of_report page (net ∷ (order ∷ [])) status text answer = absurd answer
of_report page (net ∷ (order ∷ (plan ∷ []))) status text answer = inr (inr (inr (inr (page, net, order, plan, text, answer))))
of_report page (net ∷ (order ∷ (plan ∷ (other ∷ inputs)))) status text answer = absurd answer

pub reported : (page : Page) (net order plan : Reader) (old new : Option (List ℕ)) (result : Result ℕ StreamFault) → IsReportRun page net order plan old new result → IfOk result IsStatusOfPlan
reported page net order plan old new (Ok status) run = of_report page run.0 status run.2.0 run.2.1
reported page net order plan old new (Err fault) run = tt
