-- The plan: the cheapest capacities under which the project ends in time, with the least start vector.
use Rattle.std.specs.Prelude.{◌≡◌, ℕ, ◌<◌, List, length}
use Rattle.racp_model.specs.Project.{Project}
use Rattle.racp_model.specs.Schedule.{EndsBy, FitsInTime, Admits}
use Rattle.racp_model.specs.Path.{IsEarly, IsFirstLate, IsCriticalLength}
use Rattle.racp_model.specs.Terms.{Terms, release_of, due_of, IsWithinCeilings, IsBefore, IsLexBefore}

-- x has the property P, and nothing that has it stands before x
pub record IsLeast {X : Type 0} (Before : X → X → Type 0) (P : X → Type 0) (x : X) : Type 0 where
  pub is : P x
  pub least : (y : X) → P y → Before y x → ⊥

-- the starts fit the capacities in the order's release and due times and its deadline
abbrev pub FitsTerms : Project → Terms → List ℕ → List ℕ → Type 0
FitsTerms p terms = FitsInTime p (release_of terms) (due_of terms)

-- the capacities are within the order's ceilings, and some starts fit them on its terms
pub record IsEnough (p : Project) (terms : Terms) (capacities : List ℕ) : Type 0 where
  pub places : length capacities ≡ p.resources
  pub ceilings : IsWithinCeilings terms capacities
  pub admits : Admits p (release_of terms) (due_of terms) capacities

-- no capacities are enough, so there is no plan
abbrev pub NoneIsEnough : Project → Terms → Type 0
NoneIsEnough p terms = (capacities : List ℕ) → IsEnough p terms capacities → ⊥

-- the plan: of all capacities that are enough the first, by cost and then lexicographically, and of all starts that fit
-- them the lexicographically least
pub record IsPlan (p : Project) (terms : Terms) (capacities starts : List ℕ) : Type 0 where
  pub vector : IsLeast (IsBefore terms) (IsEnough p terms) capacities
  pub schedule : IsLeast IsLexBefore (FitsTerms p terms capacities) starts

-- impossible by the critical length: it exceeds the deadline
pub record IsTooLong (p : Project) (terms : Terms) (critical : ℕ) : Type 0 where
  pub length : IsCriticalLength p (release_of terms) critical
  pub exceeds : terms.deadline < critical

-- impossible by a due time: the critical length is no reason, but the early finish of the job at place i exceeds its due
-- time, and it is the first such job
pub record IsTooLateAt (p : Project) (terms : Terms) (i : ℕ) : Type 0 where
  pub not_long : (critical : ℕ) → IsTooLong p terms critical → ⊥
  pub late : (early : List ℕ) × IsEarly p (release_of terms) early × IsFirstLate p (due_of terms) early i

-- impossible by the ceilings: the early finishes are in time, but no capacities within the ceilings are enough
pub record IsOverCeilings (p : Project) (terms : Terms) : Type 0 where
  pub in_time : (early : List ℕ) × IsEarly p (release_of terms) early × EndsBy p (due_of terms) early
  pub none : NoneIsEnough p terms
