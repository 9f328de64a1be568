-- The text for an answer that is no plan; and for the answer that is known.
use Rattle.std.proofs.Common.{◌≡◌, ℕ, Bool, true, false, List, refl, inl, inr, Result, Ok, Err, IfOk, IfErr}
use Rattle.racp_model.specs.Project.{Project}
use Rattle.racp_model.specs.Terms.{Terms}
use Rattle.racp_plan.specs.declared.plan.Plan.{Plan}
use Rattle.racp_by_questions.specs.Stops.{IsPlanStop}
use Rattle.racp_lexfix.specs.Answers.{IsAnswer}
use Rattle.racp_prove.specs.Proving.{IsAnswerProvedUntil, IsProofOf, IsProofPrinted, IsProving, IsProvingUntil, MayEndPlanning}
use Rattle.racp_lexfix.specs.Texts.{answer_text, answer_status}
use Rattle.racp_lexfix.specs.declared.answer.Answer.{Answer}
use Rattle.racp_by_questions.specs.declared.stop.PlanStop.{PlanStop}
use Rattle.racp_by_questions.specs.declared.stop.PlanStop.TheVariants.{Stopped, Memory, NoThread}
use Rattle.racp_lexfix.specs.declared.printed.Refusal.{Refusal}
use Rattle.racp_lexfix.specs.declared.printed.Printed.{Printed}
use Rattle.racp_lexfix.specs.declared.answer.Answer.TheVariants.{Plan as ThePlan, Impossible, Due, Ceiling}

pub proof_of_none : (p : Project) (terms : Terms) (answer : Answer) (text : List ℕ) (status : ℕ) → ((plan : Plan) → answer ≡ ThePlan plan → ⊥) → status ≡ answer_status answer → text ≡ answer_text terms.deadline answer → IsProofOf p terms answer text status
proof_of_none p terms (ThePlan plan) text status none with_status with_text = absurd (none plan refl)
proof_of_none p terms (Impossible longest) text status none with_status with_text = (with_status, with_text)
proof_of_none p terms (Due job) text status none with_status with_text = (with_status, with_text)
proof_of_none p terms Ceiling text status none with_status with_text = (with_status, with_text)

pub answer_proved : (quiet : Bool) (p : Project) (terms : Terms) (answer : Answer) (result : Result Printed PlanStop) → IsAnswer p terms answer → IfOk result (λ printed. IsProofOf p terms answer printed.text.items printed.status) → IfOk result (λ printed. IsAnswerProvedUntil quiet p terms printed.text.items printed.status)
answer_proved quiet p terms answer (Ok printed) right proof = inl (answer, right, proof)
answer_proved quiet p terms answer (Err stop) right proof = tt

-- planning ends early for memory, or by its stop
pub planning_ends : (IsTold : List ℕ → Type 0) (quiet : Bool) (result : Result Answer PlanStop) → IfErr result (IsPlanStop IsTold (quiet ≡ false) ⊥) → IfErr result (MayEndPlanning quiet)
planning_ends IsTold quiet (Ok answer) end = tt
planning_ends IsTold quiet (Err (Stopped not_before)) end = end.0
planning_ends IsTold quiet (Err Memory) end = tt
planning_ends IsTold quiet (Err NoThread) end = end

-- with a quiet stop the answer is one that was not stopped
pub proved_quietly : (net order : List ℕ) (result : Result Printed Refusal) → IsProvingUntil true net order result → IsProving net order result
proved_quietly net order (Ok printed) proving = by proving.is_proved
  where
    by : IsAnswerProvedUntil true proving.network proving.terms printed.text.items printed.status → IsProofPrinted net order printed.text.items printed.status
    by (inl (answer, right, proof)) = record { network = proving.network; terms = proving.terms; answer = answer; are_terms = proving.are_terms; right = right; proof = proof }
    by (inr (loud, status, line)) = absurd (cc loud)
proved_quietly net order (Err refusal) proving = proving
