-- What is printed as a certificate by clauses for the plan of the texts of a network and an order, or of what it costs at least.
use Rattle.std.specs.Prelude.{◌≡◌, ◌⊎◌, ℕ, List, Result, Ok, Err}
use Rattle.racp_model.specs.Project.{Project}
use Rattle.racp_model.specs.Terms.{Terms}
use Rattle.racp_derivations.specs.Texts.{IsDerivationText}
use Rattle.racp_derivations.specs.BoundTexts.{IsBoundText}
use Rattle.racp_lexfix.specs.Answers.{IsAnswer}
use Rattle.racp_lexfix.specs.Printing.{AreTextsOf, IsRefusal}
use Rattle.racp_prove.specs.Proving.{unproved_line}
use Rattle.racp_lexfix.specs.Texts.{answer_text, answer_status}
use Rattle.racp_lexfix.specs.declared.answer.Answer.{Answer}
use Rattle.racp_lexfix.specs.declared.answer.Answer.TheVariants.{Plan as ThePlan, Impossible, Due, Ceiling}
use Rattle.racp_by_questions.specs.declared.stop.PlanStop.TheVariants.{Memory}
use Rattle.racp_lexfix.specs.declared.printed.Printed.{Printed}
use Rattle.racp_lexfix.specs.declared.printed.Refusal.{Refusal}

-- the text and the status for an answer: a certificate by clauses for the plan, or why there is no plan
abbrev pub ShowsAnswer : Project → Terms → Answer → List ℕ → ℕ → Type 0
ShowsAnswer p terms (ThePlan plan) text status = (status ≡ 0) × IsDerivationText p terms plan.capacities plan.starts text
ShowsAnswer p terms (Impossible longest) text status =
    (status ≡ answer_status (Impossible longest)) × (text ≡ answer_text terms.deadline (Impossible longest))
ShowsAnswer p terms (Due job) text status = (status ≡ answer_status (Due job)) × (text ≡ answer_text terms.deadline (Due job))
ShowsAnswer p terms Ceiling text status = (status ≡ answer_status Ceiling) × (text ≡ answer_text terms.deadline Ceiling)

-- that for a network and an order; or a certificate of what all capacities that are enough cost at least; or that none was made,
-- with the line `unproved`
abbrev pub IsAnswerShown : Project → Terms → List ℕ → ℕ → Type 0
IsAnswerShown network terms text status =
    ((answer : Answer) × IsAnswer network terms answer × ShowsAnswer network terms answer text status) ⊎
    (((status ≡ 4) × (least : ℕ) × IsBoundText network terms least text) ⊎ ((status ≡ 8) × (text ≡ unproved_line)))

-- that for the network and the order that two texts are read as
pub record IsShowingPrinted (net order text : List ℕ) (status : ℕ) : Type 0 where
  pub network : Project
  pub terms : Terms
  pub are_terms : AreTextsOf net order network terms
  pub is_shown : IsAnswerShown network terms text status

-- what is printed for two texts, or why nothing is
abbrev pub IsShowing : List ℕ → List ℕ → Result Printed Refusal → Type 0
IsShowing net order (Ok printed) = IsShowingPrinted net order printed.text.items printed.status
IsShowing net order (Err refusal) = IsRefusal (λ stop. stop ≡ Memory) net order refusal
