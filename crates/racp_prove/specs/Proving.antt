-- What is printed as a certificate for the plan of the texts of a network and an order.
use Rattle.std.specs.Prelude.{◌≡◌, ◌⊎◌, ⊤, ℕ, Bool, false, List, codes, Result, Ok, Err}
use Rattle.racp_model.specs.Project.{Project}
use Rattle.racp_model.specs.Terms.{Terms}
use Rattle.racp_plan.specs.Texts.{line}
use Rattle.racp_trees.specs.Certificates.{IsCertificate}
use Rattle.racp_lexfix.specs.Answers.{IsAnswer}
use Rattle.racp_lexfix.specs.Printing.{AreTextsOf, IsRefusal}
use Rattle.racp_lexfix.specs.Texts.{answer_text, answer_status}
use Rattle.racp_lexfix.specs.declared.answer.Answer.{Answer}
use Rattle.racp_lexfix.specs.declared.answer.Answer.TheVariants.{Plan as ThePlan, Impossible, Due, Ceiling}
use Rattle.racp_by_questions.specs.declared.stop.PlanStop.{PlanStop}
use Rattle.racp_by_questions.specs.declared.stop.PlanStop.TheVariants.{Stopped, Memory, NoThread}
use Rattle.racp_lexfix.specs.declared.printed.Printed.{Printed}
use Rattle.racp_lexfix.specs.declared.printed.Refusal.{Refusal}

-- `unproved`
unfoldable pub unproved_line : List ℕ
unproved_line = line (codes "unproved")

-- the text and the status for an answer: a certificate for the plan, or that none was made; or why there is no plan
abbrev pub IsProofOf : Project → Terms → Answer → List ℕ → ℕ → Type 0
IsProofOf p terms (ThePlan plan) text status =
    ((status ≡ 0) × IsCertificate p terms plan.capacities text) ⊎ ((status ≡ 8) × (text ≡ unproved_line))
IsProofOf p terms (Impossible longest) text status =
    (status ≡ answer_status (Impossible longest)) × (text ≡ answer_text terms.deadline (Impossible longest))
IsProofOf p terms (Due job) text status = (status ≡ answer_status (Due job)) × (text ≡ answer_text terms.deadline (Due job))
IsProofOf p terms Ceiling text status = (status ≡ answer_status Ceiling) × (text ≡ answer_text terms.deadline Ceiling)

-- the text and the status for the answer for a network and an order
abbrev pub IsAnswerProved : Project → Terms → List ℕ → ℕ → Type 0
IsAnswerProved network terms text status = (answer : Answer) × IsAnswer network terms answer ×
    IsProofOf network terms answer text status

-- the text and the status for the answer to the network and the order that two texts are read as
pub record IsProofPrinted (net order text : List ℕ) (status : ℕ) : Type 0 where
  pub network : Project
  pub terms : Terms
  pub answer : Answer
  pub are_terms : AreTextsOf net order network terms
  pub right : IsAnswer network terms answer
  pub proof : IsProofOf network terms answer text status

-- why planning ends early: memory was refused, or it was stopped, by a stop that is not quiet
abbrev pub MayEndPlanning : (quiet : Bool) → PlanStop → Type 0
MayEndPlanning quiet (Stopped not_before) = quiet ≡ false
MayEndPlanning quiet Memory = ⊤
MayEndPlanning quiet NoThread = ⊥

-- the text and the status for the answer; or that it was stopped, by a stop that is not quiet, with the line `unproved`
abbrev pub IsAnswerProvedUntil : (quiet : Bool) → Project → Terms → List ℕ → ℕ → Type 0
IsAnswerProvedUntil quiet network terms text status =
    IsAnswerProved network terms text status ⊎ ((quiet ≡ false) × (status ≡ 8) × (text ≡ unproved_line))

-- that for the network and the order that two texts are read as
pub record IsProofPrintedUntil (quiet : Bool) (net order text : List ℕ) (status : ℕ) : Type 0 where
  pub network : Project
  pub terms : Terms
  pub are_terms : AreTextsOf net order network terms
  pub is_proved : IsAnswerProvedUntil quiet network terms text status

-- what is printed for two texts, or why nothing is
abbrev pub IsProving : List ℕ → List ℕ → Result Printed Refusal → Type 0
IsProving net order (Ok printed) = IsProofPrinted net order printed.text.items printed.status
IsProving net order (Err refusal) = IsRefusal (λ stop. stop ≡ Memory) net order refusal

-- the same, of a proof that may be stopped
abbrev pub IsProvingUntil : (quiet : Bool) → List ℕ → List ℕ → Result Printed Refusal → Type 0
IsProvingUntil quiet net order (Ok printed) = IsProofPrintedUntil quiet net order printed.text.items printed.status
IsProvingUntil quiet net order (Err refusal) = IsRefusal (λ stop. stop ≡ Memory) net order refusal
