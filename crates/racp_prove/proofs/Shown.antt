-- The text for an answer that is no plan.
use Rattle.std.proofs.Common.{◌≡◌, ℕ, List, refl, Result, Ok, Err, IfOk, inl}
use Rattle.std.specs.declared.alloc.AllocError.{AllocError}
use Rattle.racp_model.specs.Project.{Project}
use Rattle.racp_model.specs.Terms.{Terms}
use Rattle.racp_plan.specs.declared.plan.Plan.{Plan}
use Rattle.racp_lexfix.specs.Answers.{IsAnswer}
use Rattle.racp_prove.specs.Showing.{IsAnswerShown, ShowsAnswer}
use Rattle.racp_lexfix.specs.Texts.{answer_text, answer_status}
use Rattle.racp_lexfix.specs.declared.answer.Answer.{Answer}
use Rattle.racp_lexfix.specs.declared.printed.Printed.{Printed}
use Rattle.racp_lexfix.specs.declared.answer.Answer.TheVariants.{Plan as ThePlan, Impossible, Due, Ceiling}

shows_none : (p : Project) (terms : Terms) (answer : Answer) (text : List ℕ) (status : ℕ) → ((plan : Plan) → answer ≡ ThePlan plan → ⊥) → text ≡ answer_text terms.deadline answer → status ≡ answer_status answer → ShowsAnswer p terms answer text status
shows_none p terms (ThePlan plan) text status none with_text with_status = absurd (none plan refl)
shows_none p terms (Impossible longest) text status none with_text with_status = (with_status, with_text)
shows_none p terms (Due job) text status none with_text with_status = (with_status, with_text)
shows_none p terms Ceiling text status none with_text with_status = (with_status, with_text)

-- an answer that is no plan
pub none_shown : (p : Project) (terms : Terms) (answer : Answer) (result : Result Printed AllocError) → IsAnswer p terms answer → ((plan : Plan) → answer ≡ ThePlan plan → ⊥) → IfOk result (λ printed. printed.text.items ≡ answer_text terms.deadline answer) →
    IfOk result (λ printed. printed.status ≡ answer_status answer) → IfOk result (λ printed. IsAnswerShown p terms printed.text.items printed.status)
none_shown p terms answer (Ok printed) right none with_text with_status = inl (answer, right, shows_none p terms answer printed.text.items printed.status none with_text with_status)
none_shown p terms answer (Err error) right none with_text with_status = tt
