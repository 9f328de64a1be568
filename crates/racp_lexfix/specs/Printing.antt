-- What is printed for the texts of a network and an order.
use Rattle.std.specs.Prelude.{◌≡◌, ℕ, Bool, List, length, Result, Ok, Err, ⊤}
use Rattle.racp_model.specs.Project.{Project}
use Rattle.racp_model.specs.Terms.{Terms}
use Rattle.racp_found.specs.declared.observer.News.{News}
use Rattle.racp_sm.specs.Reading.{IsReading, IsReadingOrMemory}
use Rattle.racp_prices.specs.Orders.{IsOrder, IsOrderOrMemory}
use Rattle.racp_found.specs.Told.{MayBeTold}
use Rattle.racp_by_questions.specs.Stops.{IsNotAfterEnough, AreAboveFloors}
use Rattle.racp_lexfix.specs.Answers.{IsAnswer}
use Rattle.racp_by_questions.specs.Crowds.{MayStop}
use Rattle.racp_lexfix.specs.Texts.{answer_text, answer_status}
use Rattle.racp_lexfix.specs.declared.answer.Answer.{Answer}
use Rattle.racp_by_questions.specs.declared.stop.PlanStop.{PlanStop}
use Rattle.racp_by_questions.specs.declared.stop.PlanStop.TheVariants.{Stopped, Memory, NoThread}
use Rattle.racp_by_questions.specs.declared.crowd.Effort.{Effort}
use Rattle.racp_lexfix.specs.declared.printed.Printed.{Printed}
use Rattle.racp_lexfix.specs.declared.printed.Refusal.{Refusal}
use Rattle.racp_lexfix.specs.declared.printed.Refusal.TheVariants.{Sm, Order, Stop}

-- the texts are read as a network and an order for it
pub record AreTextsOf (net order : List ℕ) (network : Project) (terms : Terms) : Type 0 where
  pub is_network : IsReading net (Ok network)
  pub is_order : IsOrder network.resources (length network.jobs) order (Ok terms)

-- an observer may be told all that is true of the order that two texts are read as
abbrev pub MayBeToldOf : (net order : List ℕ) → (News → Type 0) → Type 0
MayBeToldOf net order may_hear = (network : Project) → (terms : Terms) → AreTextsOf net order network terms →
    MayBeTold network terms may_hear

-- the same of the order for a network that a text is read as
abbrev pub MayBeToldOfOrder : Project → (order : List ℕ) → (News → Type 0) → Type 0
MayBeToldOfOrder network order may_hear = (terms : Terms) →
    IsOrder network.resources (length network.jobs) order (Ok terms) → MayBeTold network terms may_hear

-- the text and the status of the answer for a network and an order
abbrev pub IsAnswerPrinted : Project → Terms → List ℕ → ℕ → Type 0
IsAnswerPrinted network terms text status = (answer : Answer) × IsAnswer network terms answer ×
    (text ≡ answer_text terms.deadline answer) × (status ≡ answer_status answer)

-- the text and the status of the answer for the network and the order that two texts are read as
pub record IsPrinted (net order text : List ℕ) (status : ℕ) : Type 0 where
  pub network : Project
  pub terms : Terms
  pub answer : Answer
  pub are_terms : AreTextsOf net order network terms
  pub right : IsAnswer network terms answer
  pub with_text : text ≡ answer_text terms.deadline answer
  pub with_status : status ≡ answer_status answer

-- which of two texts is refused, the network's first, or why planning ended early; memory may run out at any texts
abbrev pub IsRefusal : (PlanStop → Type 0) → List ℕ → List ℕ → Refusal → Type 0
IsRefusal IsEnd net order (Sm fault) = IsReadingOrMemory net (Err fault)
IsRefusal IsEnd net order (Order fault) =
    (network : Project) × IsReading net (Ok network) × IsOrderOrMemory network.resources (length network.jobs) order
    (Err fault)
IsRefusal IsEnd net order (Stop stop) = IsEnd stop

-- what is printed for two texts on one thread, or why nothing is
abbrev pub IsPrinting : List ℕ → List ℕ → Result Printed Refusal → Type 0
IsPrinting net order (Ok printed) = IsPrinted net order printed.text.items printed.status
IsPrinting net order (Err refusal) = IsRefusal (λ stop. stop ≡ Memory) net order refusal

-- why workers with so many turns ended early: they stopped, since all turns were taken, or since their stop is not quiet, and tell
-- capacities at or above the floors, before which none are enough; memory was refused; or one could not be started
abbrev pub IsCrowdStop : (turns : ℕ) → (quiet : Bool) → Project → Terms → PlanStop → Type 0
IsCrowdStop turns quiet network terms (Stopped not_before) =
    MayStop network quiet turns × IsNotAfterEnough network terms not_before × AreAboveFloors network terms not_before
IsCrowdStop turns quiet network terms Memory = ⊤
IsCrowdStop turns quiet network terms NoThread = ⊤

-- the same, for the network and the order that two texts are read as
abbrev pub IsCrowdEnd : (turns : ℕ) → (quiet : Bool) → List ℕ → List ℕ → PlanStop → Type 0
IsCrowdEnd turns quiet net order stop = (network : Project) × (terms : Terms) × AreTextsOf net order network terms ×
    IsCrowdStop turns quiet network terms stop

-- what is printed for two texts by workers, with their effort, or why nothing is
abbrev pub IsCrowdPrinting : (turns : ℕ) → (quiet : Bool) → List ℕ → List ℕ → Result (Printed × Effort) Refusal → Type 0
IsCrowdPrinting turns quiet net order (Ok printed) = IsPrinted net order printed.0.text.items printed.0.status
IsCrowdPrinting turns quiet net order (Err refusal) = IsRefusal (IsCrowdEnd turns quiet net order) net order refusal
