-- Solutions of a problem, and bounds on the numbers that make one up.
use Rattle.std.specs.Prelude.{◌≡◌, ℕ, ◌+◌, ◌<◌, ◌≤◌, List, [], ◌∷◌, ◌++◌, length, slice_index, All}
use Rattle.racp_model.specs.Project.{Project}
use Rattle.racp_model.specs.Schedule.{Fits}
use Rattle.racp_model.specs.Terms.{Terms, cost}
use Rattle.racp_model.specs.Window.{Bounds}

-- what facts are about: a project, the terms of an order, and bounds on each variable. The variables are the start of
-- each job, the units of each resource, and the cost, in this order
pub record Problem : Type 0 where
  pub network : Project
  pub terms : Terms
  pub root : Bounds

-- one start for each job and units for each resource, such that the starts keep precedence and these capacities
pub record IsSchedule (p : Project) (starts capacities : List ℕ) : Type 0 where
  pub places : length starts ≡ length p.jobs
  pub resources : length capacities ≡ p.resources
  pub fits : Fits p capacities starts

-- the values of the variables: the starts, the units and what they cost
unfoldable pub values : Terms → List ℕ → List ℕ → List ℕ
values terms starts capacities = starts ++ (capacities ++ cost terms capacities ∷ [])

-- the places of variables: the units of resource k, and the cost
abbrev pub units_place : Project → ℕ → ℕ
units_place p k = length p.jobs + k

abbrev pub cost_place : Project → ℕ
cost_place p = length p.jobs + p.resources

-- bounds have a place for each variable
pub record HasPlaces (p : Project) (bounds : Bounds) : Type 0 where
  pub lower : length bounds.lower ≡ cost_place p + 1
  pub upper : length bounds.upper ≡ cost_place p + 1

-- values that are within bounds
pub record IsWithin (bounds : Bounds) (values : List ℕ) : Type 0 where
  pub above : (x : ℕ) → x < length bounds.lower → slice_index bounds.lower x ≤ slice_index values x
  pub below : (x : ℕ) → x < length bounds.lower → slice_index values x ≤ slice_index bounds.upper x

-- a solution of a problem: a schedule whose values are within the root bounds
pub record IsSolution (q : Problem) (starts capacities : List ℕ) : Type 0 where
  pub schedule : IsSchedule q.network starts capacities
  pub within : IsWithin q.root (values q.terms starts capacities)

-- the greatest bound
abbrev pub most_value : ℕ
most_value = 100000000000000

-- as many upper as lower bounds, none above the greatest
pub record AreSmall (low high : List ℕ) : Type 0 where
  pub same : length high ≡ length low
  pub lower : All (λ x. x ≤ most_value) low
  pub upper : All (λ x. x ≤ most_value) high
