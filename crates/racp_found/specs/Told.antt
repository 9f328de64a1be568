-- What is told of the plan of an order on the way to it.
use Rattle.std.specs.Prelude.{◌≡◌, ℕ, ◌<◌, ◌≤◌, List, length, slice_index, ⊤}
use Rattle.racp_model.specs.Project.{Project}
use Rattle.racp_model.specs.Terms.{Terms, cost}
use Rattle.racp_model.specs.Plan.{IsEnough}
use Rattle.racp_found.specs.declared.observer.News.{News}
use Rattle.racp_found.specs.declared.observer.News.TheVariants.{Deadline, Floors, Cost, Plan, Work}
use Rattle.racp_plan.specs.Fitting.{AreFitting}

-- all capacities that are enough are at or above these, resource by resource
pub record AreFloorsOfEnough (p : Project) (terms : Terms) (floors : List ℕ) : Type 0 where
  pub places : length floors ≡ p.resources
  pub below : (enough : List ℕ) → IsEnough p terms enough → (k : ℕ) → k < p.resources →
      slice_index floors k ≤ slice_index enough k

-- all capacities that are enough cost at least so much
abbrev pub IsLeastOfEnough : Project → Terms → ℕ → Type 0
IsLeastOfEnough p terms least = (enough : List ℕ) → IsEnough p terms enough → least ≤ cost terms enough

-- some starts fit capacities that cost so much
abbrev pub IsKnownCost : Project → Terms → ℕ → Type 0
IsKnownCost p terms known = (capacities : List ℕ) × (starts : List ℕ) × AreFitting p terms capacities starts ×
    (known ≡ cost terms capacities)

-- news of an order is true: its deadline, floors and least costs of all that is enough, plans that fit it with what they cost;
-- how much was done says nothing of it
abbrev pub IsTrueNews : Project → Terms → News → Type 0
IsTrueNews p terms (Deadline deadline) = deadline ≡ terms.deadline
IsTrueNews p terms (Floors floors) = AreFloorsOfEnough p terms floors.now
IsTrueNews p terms (Cost least) = IsLeastOfEnough p terms least
IsTrueNews p terms (Plan capacities starts known) =
    AreFitting p terms capacities.now starts.now × (known ≡ cost terms capacities.now)
IsTrueNews p terms (Work conflicts clauses) = ⊤

-- an observer may be told all that is true of an order
abbrev pub MayBeTold : Project → Terms → (News → Type 0) → Type 0
MayBeTold p terms may_hear = (news : News) → IsTrueNews p terms news → may_hear news

-- an observer may be told anything
abbrev pub HearsAll : (News → Type 0) → Type 0
HearsAll may_hear = (news : News) → may_hear news
