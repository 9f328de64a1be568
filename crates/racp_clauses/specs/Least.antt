-- The plan as the least solution: by the cost, then by the units of each resource, then by the start of each job.
use Rattle.std.specs.Prelude.{◌≡◌, ℕ, ◌+◌, ◌-◌, ◌<◌, ◌≤◌, nat_lt, if◌then◌else◌, List, length, slice_index}
use Rattle.racp_model.specs.Project.{Project}
use Rattle.racp_model.specs.Terms.{Terms, IsBefore, IsWithinCeilings}
use Rattle.racp_model.specs.Plan.{IsEnough, IsPlan, FitsTerms}
use Rattle.racp_plan.specs.Fitting.{AreFitting}
use Rattle.racp_clauses.specs.Solutions.{Problem, IsSolution, values, cost_place}
use Rattle.racp_clauses.specs.Roots.{IsOpen}

-- the variables in another order: the cost, the units of each resource, the start of each job. So many come before the
-- one at place x
abbrev pub turn : Project → ℕ → ℕ
turn p x =
    if nat_lt x (length p.jobs) then p.resources + 1 + x
    else if nat_lt x (cost_place p) then x - length p.jobs + 1
    else 0

-- values are less than others by the variable at place x: it is less, and each variable that comes before it is the
-- same
pub record AreLessBy (p : Project) (x : ℕ) (others values : List ℕ) : Type 0 where
  pub same : (y : ℕ) → y ≤ cost_place p → turn p y < turn p x → slice_index values y ≡ slice_index others y
  pub less : slice_index values x < slice_index others x

-- the values of no solution are less than these by the variable at place x
abbrev pub NoneIsLessBy : Problem → ℕ → List ℕ → Type 0
NoneIsLessBy q x vs = (starts capacities : List ℕ) → IsSolution q starts capacities →
    AreLessBy q.network x vs (values q.terms starts capacities) → ⊥

-- nor by any variable of the first so many
abbrev pub AreLeast : Problem → ℕ → List ℕ → Type 0
AreLeast q turns vs = (x : ℕ) → x ≤ cost_place q.network → turn q.network x < turns → NoneIsLessBy q x vs

-- no capacities that are enough stand before these
abbrev pub NoneStandBefore : Project → Terms → List ℕ → Type 0
NoneStandBefore p terms capacities = (enough : List ℕ) → IsEnough p terms enough → IsBefore terms enough capacities → ⊥

-- where no solution is less by the cost or by the units of a resource, no capacities that are enough stand before these
abbrev pub LeastUnitsAreFirst : Type 0
LeastUnitsAreFirst = (q : Problem) (starts capacities : List ℕ) → IsOpen q → length starts ≡ length q.network.jobs →
    length capacities ≡ q.network.resources → AreLeast q (q.network.resources + 1) (values q.terms starts capacities) →
    NoneStandBefore q.network q.terms capacities

-- where no solution is less by any variable, starts that fit, and their capacities, are the plan
abbrev pub LeastIsPlan : Type 0
LeastIsPlan = (q : Problem) (capacities starts : List ℕ) → IsOpen q → AreFitting q.network q.terms capacities starts →
    AreLeast q (cost_place q.network + 1) (values q.terms starts capacities) → IsPlan q.network q.terms capacities starts
