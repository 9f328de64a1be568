-- Contracts of private functions: nodes whose children are being read.
use Rattle.std.specs.Prelude.{◌≡◌, ◌⊎◌, ℕ, ◌<◌, ◌≤◌, max, List, length, slice_index, Contains, All, Option, Some, None, Vec}
use Rattle.std.specs.Global.{Global}
use Rattle.racp_model.specs.Project.{Project, number}
use Rattle.racp_model.specs.Limits.{most_bound, most_start}
use Rattle.racp_model.specs.Path.{IsEarly}
use Rattle.racp_delay.specs.Branching.{IsConflict}
use Rattle.racp_trees.specs.Children.{NoneStays, IsChildFor}
use Rattle.racp_trees.specs.Rows.{early_of}
use Rattle.racp_trees.specs.Following.{OpenNode, read_on, IsNextBehind, IsNoneBehind}
use Rattle.racp_trees.specs.declared.branch.Branch.{Branch}

-- the node that is read, of these capacities and upper bounds
abbrev pub open_node : Project → List ℕ → List ℕ → Branch → OpenNode
open_node p capacities upper branch = record {
  number = branch.number;
  node = record { capacities = capacities; window = record { lower = branch.lower; upper = upper }; early = early_of p branch.lower; time = branch.time };
  active = branch.active;
  last = branch.last.items;
}

-- what holds of each: the early starts have their first conflict at its time
pub record IsBranch (p : Project) (capacities : List ℕ) (branch : Branch) : Type 0 where
  pub places : length branch.lower ≡ length p.jobs
  pub small : All (λ x. x ≤ most_bound) branch.lower
  pub starts : IsEarly p (slice_index branch.lower) (early_of p branch.lower)
  pub below : (i : ℕ) → i < length p.jobs → slice_index (early_of p branch.lower) i ≤ most_start
  pub conflict : IsConflict p capacities (early_of p branch.lower) branch.time branch.active

-- the times of these jobs are raised to a time, and the others stay
pub record IsRaised (old gone : List ℕ) (end m : ℕ) (new : List ℕ) : Type 0 where
  pub places : length new ≡ m
  pub raised : (i : ℕ) → i < m → Contains gone (number i) → slice_index new i ≡ max (slice_index old i) end
  pub same : (i : ℕ) → i < m → (Contains gone (number i) → ⊥) → slice_index new i ≡ slice_index old i

-- the next alternative, or that there is none
abbrev pub IsAlternativeAnswer : Project → List ℕ → Branch → Option (Vec ℕ Global) → Type 0
IsAlternativeAnswer p capacities branch (Some gone) = (upper : List ℕ) → IsNextBehind p (open_node p capacities upper branch) gone.items
IsAlternativeAnswer p capacities branch None = (upper : List ℕ) → IsNoneBehind p (open_node p capacities upper branch)

-- the child window of an alternative has these lower bounds
pub record HasLower (p : Project) (branch : Branch) (gone lower : List ℕ) : Type 0 where
  pub some : NoneStays branch.active gone → ⊥
  pub small : All (λ x. x ≤ most_bound) lower
  pub child : (upper : List ℕ) → IsChildFor p (early_of p branch.lower) branch.active (record { lower = branch.lower; upper = upper }) gone (record { lower = lower; upper = upper })

-- its lower bounds, or that no active job stays
abbrev pub IsWindowAnswer : Project → Branch → List ℕ → Option (Vec ℕ Global) → Type 0
IsWindowAnswer p branch gone (Some lower) = HasLower p branch gone lower.items
IsWindowAnswer p branch gone None = NoneStays branch.active gone

-- the next child has these lower bounds
pub record IsNextChild (p : Project) (capacities : List ℕ) (old new : Branch) (lower : List ℕ) : Type 0 where
  pub gone : List ℕ
  pub next : (upper : List ℕ) → IsNextBehind p (open_node p capacities upper old) gone
  pub window : HasLower p old gone lower
  pub read : (upper : List ℕ) → open_node p capacities upper new ≡ read_on (open_node p capacities upper old) gone

-- no child is to come: no alternative is, or only that of all active jobs
abbrev pub IsReadUp : Project → OpenNode → Type 0
IsReadUp p f = IsNoneBehind p f ⊎ ((gone : List ℕ) × IsNextBehind p f gone × NoneStays f.active gone × IsNoneBehind p (read_on f gone))

-- what looking for the next child answers
abbrev pub IsChildAnswer : Project → List ℕ → Branch → Branch → Option (Vec ℕ Global) → Type 0
IsChildAnswer p capacities old new (Some lower) = IsNextChild p capacities old new lower.items
IsChildAnswer p capacities old new None = (upper : List ℕ) → IsReadUp p (open_node p capacities upper old)
