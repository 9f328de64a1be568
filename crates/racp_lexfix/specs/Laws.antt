-- Laws of the answers. Each is the contract of a public function.
use Rattle.std.specs.Prelude.{◌≡◌, ◌↔◌, ℕ, ◌<◌, ◌≤◌, List, length, slice_index, None, ⊤}
use Rattle.racp_model.specs.Project.{Project, IsSound}
use Rattle.racp_model.specs.Path.{IsCriticalLength}
use Rattle.racp_model.specs.Terms.{Terms, AreTermsOf, release_of}
use Rattle.racp_model.specs.Plan.{IsPlan}
use Rattle.racp_lexfix.specs.Answers.{IsAnswer}
use Rattle.racp_lexfix.specs.declared.answer.Answer.{Answer}
use Rattle.racp_lexfix.specs.declared.answer.Answer.TheVariants.{Plan as ThePlan, Impossible, Due, Ceiling}

-- an order for a network has one answer at most: a plan or one of the reasons, and never two of them
abbrev pub AnswerIsOne : Type 0
AnswerIsOne = (p : Project) (terms : Terms) (a b : Answer) → IsSound p → IsAnswer p terms a → IsAnswer p terms b → a ≡ b

-- an order for a network has an answer
abbrev pub AnswerExists : Type 0
AnswerExists = (p : Project) (terms : Terms) → IsSound p → AreTermsOf p terms → (answer : Answer) ×
    IsAnswer p terms answer

-- the answer is one of the reasons and no plan
abbrev pub IsNoPlan : Answer → Type 0
IsNoPlan (ThePlan plan) = ⊥
IsNoPlan (Impossible longest) = ⊤
IsNoPlan (Due job) = ⊤
IsNoPlan Ceiling = ⊤

-- plain terms: there are no ceilings, and no due time is before the deadline
pub record IsPlain (p : Project) (terms : Terms) : Type 0 where
  pub ceilings : terms.ceilings ≡ None
  pub due : (i : ℕ) → i < length p.jobs → terms.deadline ≤ slice_index terms.due i

-- the answer is no plan exactly where there is no plan
abbrev pub ImpossibleIsNoPlan : Type 0
ImpossibleIsNoPlan =
    (p : Project) (terms : Terms) (answer : Answer) → IsSound p → IsAnswer p terms answer →
    IsNoPlan answer ↔ ((capacities starts : List ℕ) → IsPlan p terms capacities starts → ⊥)

-- on plain terms the answer is no plan exactly where the critical length exceeds the deadline
abbrev pub ImpossibleIsByLength : Type 0
ImpossibleIsByLength =
    (p : Project) (terms : Terms) (critical : ℕ) (answer : Answer) → IsSound p → IsPlain p terms →
    IsCriticalLength p (release_of terms) critical → IsAnswer p terms answer →
    IsNoPlan answer ↔ (terms.deadline < critical)

-- on plain terms there is a plan exactly where the critical length does not exceed the deadline
abbrev pub PlanIsByLength : Type 0
PlanIsByLength =
    (p : Project) (terms : Terms) (critical : ℕ) → IsSound p → AreTermsOf p terms → IsPlain p terms →
    IsCriticalLength p (release_of terms) critical →
    ((capacities : List ℕ) × (starts : List ℕ) × IsPlan p terms capacities starts) ↔ (critical ≤ terms.deadline)
