-- What is wrong with a plan, and what the check of a plan answers.
use Rattle.std.specs.Prelude.{◌≡◌, ℕ, ◌+◌, ◌<◌, ◌≤◌, ⊤, List, length, slice_index, IsSomeAnd, Result, Ok, Err}
use Rattle.racp_model.specs.Project.{Project, number, duration, Precedes, IsArcBefore}
use Rattle.racp_model.specs.Schedule.{usage, KeepsPrecedence, EndsBy, IsWithinCapacities}
use Rattle.racp_model.specs.Path.{IsFirstLate}
use Rattle.racp_model.specs.Terms.{Terms, release_of, due_of, cost, IsWithinCeilings}
use Rattle.racp_model.specs.Plan.{FitsTerms}
use Rattle.racp_plan.specs.declared.plan.Plan.{Plan}
use Rattle.racp_check.specs.declared.plan_fault.PlanFault.{PlanFault}
use Rattle.racp_check.specs.declared.plan_fault.PlanFault.TheVariants.{Cost, Late, Order, Over, Ceiling, Early}

-- the cost of the plan is that of its capacities on the order's terms
abbrev pub HasRightCost : Terms → Plan → Type 0
HasRightCost terms plan = plan.cost ≡ cost terms plan.capacities

-- nothing is wrong with the plan: its cost is right, and its starts fit its capacities on the order's terms and within
-- the ceilings
pub record IsFitting (p : Project) (terms : Terms) (plan : Plan) : Type 0 where
  pub cost : HasRightCost terms plan
  pub fits : FitsTerms p terms plan.capacities plan.starts
  pub ceilings : IsWithinCeilings terms plan.capacities

-- the jobs at places i and j are the first that are out of order: j starts before i has ended, although it is to come
-- after it, and each pair before theirs is kept
pub record IsFirstBroken (p : Project) (starts : List ℕ) (i j : ℕ) : Type 0 where
  pub pair : Precedes p i j
  pub broken : slice_index starts j < slice_index starts i + duration p i
  pub first : (a b : ℕ) → Precedes p a b → IsArcBefore (a, b) (i, j) →
      slice_index starts a + duration p a ≤ slice_index starts b

-- the resource at place k is the first that is used above its capacity at time t, and t is the first time at which one
-- is
pub record IsFirstOver (p : Project) (capacities starts : List ℕ) (k t : ℕ) : Type 0 where
  pub resource : k < p.resources
  pub over : slice_index capacities k < usage p starts k t
  pub first_time : (q s : ℕ) → q < p.resources → s < t → usage p starts q s ≤ slice_index capacities q
  pub first : (q : ℕ) → q < k → usage p starts q t ≤ slice_index capacities q

-- the resource at place k is the first of which the capacity is above its ceiling
pub record IsFirstAbove (p : Project) (ceilings capacities : List ℕ) (k : ℕ) : Type 0 where
  pub resource : k < p.resources
  pub above : slice_index ceilings k < slice_index capacities k
  pub first : (q : ℕ) → q < k → slice_index capacities q ≤ slice_index ceilings q

-- there are ceilings, and the resource at place k is the first of which the capacity is above its ceiling
abbrev pub IsFirstAboveCeiling : Project → Terms → List ℕ → ℕ → Type 0
IsFirstAboveCeiling p terms capacities k = IsSomeAnd terms.ceilings (λ ceilings. IsFirstAbove p ceilings capacities k)

-- the job at place i is the first that starts before its release time
pub record IsFirstEarly (p : Project) (release : ℕ → ℕ) (starts : List ℕ) (i : ℕ) : Type 0 where
  pub job : i < length p.jobs
  pub early : slice_index starts i < release i
  pub first : (j : ℕ) → j < i → release j ≤ slice_index starts j

-- what the check of a plan answers: that nothing is wrong, or the first fault, by number, if the tests before it
-- hold
abbrev pub IsChecked : Project → Terms → Plan → Result ⊤ PlanFault → Type 0
IsChecked p terms plan (Ok _) = IsFitting p terms plan
IsChecked p terms plan (Err Cost) = HasRightCost terms plan → ⊥
IsChecked p terms plan (Err (Late job)) =
    HasRightCost terms plan ×
    ((i : ℕ) × (number i ≡ job) × IsFirstLate p (due_of terms) plan.starts i)
IsChecked p terms plan (Err (Order before after)) =
    HasRightCost terms plan × EndsBy p (due_of terms) plan.starts ×
    ((i j : ℕ) × (number i ≡ before) × (number j ≡ after) × IsFirstBroken p plan.starts i j)
IsChecked p terms plan (Err (Over resource time)) =
    HasRightCost terms plan × EndsBy p (due_of terms) plan.starts × KeepsPrecedence p plan.starts ×
    ((k : ℕ) × (number k ≡ resource) × IsFirstOver p plan.capacities plan.starts k time)
IsChecked p terms plan (Err (Ceiling resource)) =
    HasRightCost terms plan × EndsBy p (due_of terms) plan.starts × KeepsPrecedence p plan.starts ×
    IsWithinCapacities p plan.capacities plan.starts ×
    ((k : ℕ) × (number k ≡ resource) × IsFirstAboveCeiling p terms plan.capacities k)
IsChecked p terms plan (Err (Early job)) =
    HasRightCost terms plan × EndsBy p (due_of terms) plan.starts × KeepsPrecedence p plan.starts ×
    IsWithinCapacities p plan.capacities plan.starts × IsWithinCeilings terms plan.capacities ×
    ((i : ℕ) × (number i ≡ job) × IsFirstEarly p (release_of terms) plan.starts i)

-- the number of a fault, in the order in which faults are looked for
abbrev pub fault_number : PlanFault → ℕ
fault_number Cost = 1
fault_number (Late job) = 2
fault_number (Order before after) = 3
fault_number (Over resource time) = 4
fault_number (Ceiling resource) = 5
fault_number (Early job) = 6
