-- What `plan` answers if workers make the plan.
use Rattle.std.specs.Prelude.{◌≡◌, ◌≢◌, ◌⊎◌, ℕ, Bool, List, [], ◌∷◌, Option, Some, None, Result, Ok, Err}
use Rattle.racp_model.specs.Project.{Project}
use Rattle.racp_model.specs.Terms.{Terms}
use Rattle.racp_by_questions.specs.Stops.{IsNotAfterEnough, AreAboveFloors}
use Rattle.racp_by_questions.specs.Crowds.{MayStop}
use Rattle.racp_lexfix.specs.Printing.{AreTextsOf}
use Rattle.racp_by_questions.specs.declared.crowd.Effort.{Effort}
use Rattle.racp_cli.specs.Texts.{stopped_line, no_thread_line}
use Rattle.racp_cli.specs.Plans.{IsPlanAnswer}
use Rattle.racp_streams.specs.Streams.{Reader, IsRun, ToTwo}
use Rattle.racp_streams.specs.declared.fault.StreamFault.{StreamFault}

-- planning was stopped, by workers that may stop: the line tells capacities at or above the floors, before which none are enough
pub record IsStoppedLine (turns : ℕ) (quiet : Bool) (net order : List ℕ) (status : ℕ) (text : List ℕ) : Type 0 where
  pub network : Project
  pub terms : Terms
  pub not_before : List ℕ
  pub are_terms : AreTextsOf net order network terms
  pub may_stop : MayStop network quiet turns
  pub none : IsNotAfterEnough network terms not_before
  pub floors : AreAboveFloors network terms not_before
  pub with_status : status ≡ 4
  pub with_text : text ≡ stopped_line not_before

-- a worker could not be started
abbrev pub IsNoThreadLine : ℕ → List ℕ → Type 0
IsNoThreadLine status text = (status ≡ 7) × (text ≡ no_thread_line)

-- what is right for two texts, of workers with so many turns: what is right on one thread; or that planning was stopped; or that a worker could not be started
abbrev pub IsCrowdAnswer : (turns : ℕ) → (quiet : Bool) → List ℕ → List ℕ → ℕ → List ℕ → Type 0
IsCrowdAnswer turns quiet net order status text =
    IsPlanAnswer net order status text ⊎
    (IsStoppedLine turns quiet net order status text ⊎ IsNoThreadLine status text)

-- the effort is told with a plan or if there is none, and else is not
abbrev pub IsEffortOf : ℕ → Option Effort → Type 0
IsEffortOf status (Some effort) = (status ≡ 0) ⊎ (status ≡ 3)
IsEffortOf status None = (status ≢ 0) × (status ≢ 3)

-- the status that is returned beside an effort
abbrev pub status_of : Result (ℕ × Option Effort) StreamFault → Result ℕ StreamFault
status_of (Ok done) = Ok done.0
status_of (Err fault) = Err fault

-- a run of `plan` by workers with so many turns
abbrev pub IsCrowdRun : (turns : ℕ) → (quiet : Bool) → Reader → Reader → Option (List ℕ) → Option (List ℕ) →
    Result (ℕ × Option Effort) StreamFault → Type 0
IsCrowdRun turns quiet net order old new result =
    IsRun (ToTwo (IsCrowdAnswer turns quiet)) (net ∷ (order ∷ [])) old new (status_of result)
