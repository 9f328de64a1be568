-- Laws of deadlines and curves. Each is the contract of a public function.
use Rattle.std.specs.Prelude.{◌≡◌, ◌≢◌, ◌⊎◌, ℕ, ◌≤◌, List, [], Contains}
use Rattle.racp_model.specs.Project.{Project, IsSound}
use Rattle.racp_model.specs.Terms.{Terms, AreTermsOf, IsBefore}
use Rattle.racp_model.specs.Plan.{IsEnough, NoneIsEnough}
use Rattle.racp_lexfix.specs.Answers.{IsAnswer}
use Rattle.racp_lexfix.specs.Laws.{IsNoPlan}
use Rattle.racp_lexfix.specs.declared.answer.Answer.{Answer}
use Rattle.racp_curve.specs.Curves.{order_by, ArePlanned, IsCurve}
use Rattle.racp_curve.specs.declared.step.Step.{Step}

-- what is enough for a deadline is enough for each later one
abbrev pub EnoughLater : Type 0
EnoughLater =
    (p : Project) (terms : Terms) (sooner later : ℕ) (capacities : List ℕ) → sooner ≤ later →
    IsEnough p (order_by sooner terms) capacities → IsEnough p (order_by later terms) capacities

-- the capacities of a plan that are enough for an earlier deadline are those of the plan for each deadline between the two
abbrev pub PlannedBetween : Type 0
PlannedBetween =
    (p : Project) (terms : Terms) (sooner between later : ℕ) (capacities : List ℕ) → sooner ≤ between → between ≤ later →
    ArePlanned p (order_by later terms) capacities → IsEnough p (order_by sooner terms) capacities →
    ArePlanned p (order_by between terms) capacities

-- what stands before the capacities of the plan for a longer deadline is not enough for a shorter one
abbrev pub NotEnoughSooner : Type 0
NotEnoughSooner =
    (p : Project) (terms : Terms) (sooner later : ℕ) (planned capacities : List ℕ) → sooner ≤ later →
    ArePlanned p (order_by later terms) planned → IsBefore terms capacities planned →
    IsEnough p (order_by sooner terms) capacities → ⊥

-- an order has one curve at most
abbrev pub CurveIsOne : Type 0
CurveIsOne =
    (p : Project) (terms : Terms) (steps others : List Step) → IsCurve p terms steps → IsCurve p terms others → steps ≡ others

-- an order for a network has a curve with a step, or a reason why there is no plan for its own deadline
abbrev pub CurveExists : Type 0
CurveExists =
    (p : Project) (terms : Terms) → IsSound p → AreTermsOf p terms →
    ((steps : List Step) × IsCurve p terms steps × (steps ≢ [])) ⊎
    ((answer : Answer) × IsAnswer p terms answer × IsNoPlan answer)

-- a curve tells of each deadline up to the order's: there is no plan, or a step has the capacities of the plan
abbrev pub CurveTells : Type 0
CurveTells =
    (p : Project) (terms : Terms) (steps : List Step) (deadline : ℕ) → IsCurve p terms steps → deadline ≤ terms.deadline →
    NoneIsEnough p (order_by deadline terms) ⊎
    ((step : Step) × Contains steps step × (step.deadline ≤ deadline) ×
    ArePlanned p (order_by deadline terms) step.capacities)
