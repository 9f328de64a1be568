-- What each deadline costs: the plans of an order, deadline by deadline.
use Rattle.std.specs.Prelude.{◌≡◌, ◌≢◌, ℕ, ◌+◌, ◌<◌, ◌≤◌, List, [], ◌∷◌, ⊤}
use Rattle.racp_model.specs.Project.{Project}
use Rattle.racp_model.specs.Terms.{Terms, cost, IsBefore}
use Rattle.racp_model.specs.Plan.{IsLeast, IsEnough, NoneIsEnough}
use Rattle.racp_by_questions.specs.Stops.{IsPlanStop}
use Rattle.racp_lexfix.specs.Answers.{IsAnswer}
use Rattle.racp_lexfix.specs.Laws.{IsNoPlan}
use Rattle.racp_found.specs.declared.observer.News.{News}
use Rattle.racp_found.specs.Told.{MayBeTold}
use Rattle.racp_by_questions.specs.declared.stop.PlanStop.{PlanStop}
use Rattle.racp_curve.specs.declared.step.Step.{Step}
use Rattle.racp_curve.specs.declared.step.CurveAnswer.{CurveAnswer}
use Rattle.racp_curve.specs.declared.step.CurveAnswer.TheVariants.{Steps, NoPlan}

-- an order with another deadline: each job has to end by it, or by its due time if that is earlier (`due_of`)
abbrev pub order_by : ℕ → Terms → Terms
order_by deadline terms = record {
  deadline = deadline;
  prices = terms.prices;
  owned = terms.owned;
  ceilings = terms.ceilings;
  release = terms.release;
  due = terms.due;
}

-- the capacities of the plan: of all that are enough the first, by cost and then lexicographically
abbrev pub ArePlanned : Project → Terms → List ℕ → Type 0
ArePlanned p terms = IsLeast (IsBefore terms) (IsEnough p terms)

-- a step that holds from its deadline up to an end, which it does not reach: for each deadline there its capacities are those of
-- the plan, and its cost is theirs
pub record IsStepUpTo (p : Project) (terms : Terms) (end : ℕ) (step : Step) : Type 0 where
  pub some : step.deadline < end
  pub planned : (deadline : ℕ) → step.deadline ≤ deadline → deadline < end →
      ArePlanned p (order_by deadline terms) step.capacities
  pub priced : step.cost ≡ cost terms step.capacities

-- the deadline of the first step, or an end if there is none
abbrev pub first_deadline : ℕ → List Step → ℕ
first_deadline end [] = end
first_deadline end (step ∷ rest) = step.deadline

-- the first step, if there is one, has other capacities than these
abbrev pub AreOthersThanFirst : List ℕ → List Step → Type 0
AreOthersThanFirst capacities [] = ⊤
AreOthersThanFirst capacities (step ∷ rest) = capacities ≢ step.capacities

-- steps by rising deadline, up to the order's: each holds up to the next one, and the last up to the order's deadline with it.
-- Two steps in a row have different capacities
abbrev pub AreSteps : Project → Terms → List Step → Type 0
AreSteps p terms [] = ⊤
AreSteps p terms (step ∷ rest) =
    IsStepUpTo p terms (first_deadline (terms.deadline + 1) rest) step ×
    AreOthersThanFirst step.capacities rest × AreSteps p terms rest

-- the curve of an order: steps, and for each deadline before the first of them there is no plan
pub record IsCurve (p : Project) (terms : Terms) (steps : List Step) : Type 0 where
  pub are_steps : AreSteps p terms steps
  pub none : (deadline : ℕ) → deadline < first_deadline (terms.deadline + 1) steps →
      NoneIsEnough p (order_by deadline terms)

-- what is answered: the curve, which has a step; or why there is no plan for the order's own deadline, and so for none before it
abbrev pub IsCurveAnswer : Project → Terms → CurveAnswer → Type 0
IsCurveAnswer p terms (Steps steps) = IsCurve p terms steps.items × (steps.items ≢ [])
IsCurveAnswer p terms (NoPlan answer) = IsAnswer p terms answer × IsNoPlan answer

-- capacities before which none stand that are enough for a deadline before an end
abbrev pub AreNotAfterEnough : Project → Terms → (end : ℕ) → List ℕ → Type 0
AreNotAfterEnough p terms end capacities = (deadline : ℕ) → deadline < end → (enough : List ℕ) →
    IsEnough p (order_by deadline terms) enough → IsBefore terms enough capacities → ⊥

-- if it stops early: steps from some deadline on, and why no more are known, of an asker that may stop, or want a thread, or
-- neither. If it stops, capacities are told for the deadlines before the first step
pub record IsCurveStop (p : Project) (terms : Terms) (may_stop may_want_thread : Type 0) (steps : List Step) (stop : PlanStop)
    : Type 0 where
  pub are_steps : AreSteps p terms steps
  pub reason : IsPlanStop (AreNotAfterEnough p terms (first_deadline (terms.deadline + 1) steps)) may_stop may_want_thread stop

-- an observer may be told all that is true of the order with each deadline up to its own
abbrev pub MayHear : Project → Terms → (News → Type 0) → Type 0
MayHear p terms may_hear = (deadline : ℕ) → deadline ≤ terms.deadline → MayBeTold p (order_by deadline terms) may_hear
