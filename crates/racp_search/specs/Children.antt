-- Contracts of private functions: the child windows of a node. Lists of jobs hold job numbers, from 1.
use Rattle.std.specs.Prelude.{◌≡◌, ◌≢◌, ◌↔◌, ℕ, ◌<◌, ◌≤◌, max, List, [], ◌∷◌, ◌++◌, length, take, drop, slice_index, Contains, Option, Some, None}
use Rattle.racp_model.specs.Project.{Project, number, place}
use Rattle.racp_model.specs.Window.{Bounds, LiesIn}
use Rattle.racp_delay.specs.Alternatives.{Splits}
use Rattle.racp_delay.specs.Branching.{IsChild, IsFirstEnd}
use Rattle.racp_cutset.specs.Covering.{SearchNode}
use Rattle.racp_search.specs.DepthFirst.{IsBelow, IsQuiet}
use Rattle.racp_search.specs.declared.child.Child.{Child}

-- the child window in which these jobs are put off
pub record IsChildFor (p : Project) (v : SearchNode) (active gone : List ℕ) (child : Bounds) : Type 0 where
  pub below : IsBelow p v.window child
  pub quiet : IsQuiet p v.capacities child v.time
  pub is : (kept : List ℕ) → Splits active gone kept → IsChild p v.early v.window gone kept child

-- nothing lies in the child window in which these jobs are put off, or no active job stays
abbrev pub IsEmptyChild : Project → SearchNode → List ℕ → List ℕ → Type 0
IsEmptyChild p v active gone =
    (kept : List ℕ) → Splits active gone kept → kept ≢ [] →
    (child : Bounds) → IsChild p v.early v.window gone kept child → (starts : List ℕ) → LiesIn p child starts → ⊥

-- that child window, or none where nothing lies in it
abbrev pub IsChildAnswer : Project → SearchNode → List ℕ → List ℕ → Option Child → Type 0
IsChildAnswer p v active gone (Some child) = IsChildFor p v active gone child.window
IsChildAnswer p v active gone None = IsEmptyChild p v active gone

-- the free jobs: the active jobs whose upper bound is at least the first end of the active jobs
abbrev pub AreFree : Project → SearchNode → List ℕ → List ℕ → Type 0
AreFree p v active free = (job : ℕ) → Contains free job ↔ (Contains active job ×
    ((end : ℕ) → IsFirstEnd p v.early active end → end ≤ slice_index v.window.upper (place job)))

-- a child more, at some place
abbrev pub IsInserted : List Child → Child → List Child → Type 0
IsInserted old child new = (at : ℕ) × (new ≡ take at old ++ child ∷ drop at old)

-- the times of these jobs are raised to a time, and the others stay
pub record IsRaised (old gone : List ℕ) (end : ℕ) (new : List ℕ) : Type 0 where
  pub places : length new ≡ length old
  pub raised : (i : ℕ) → i < length old → Contains gone (number i) → slice_index new i ≡ max (slice_index old i) end
  pub same : (i : ℕ) → i < length old → (Contains gone (number i) → ⊥) → slice_index new i ≡ slice_index old i

-- the lower bounds of these jobs are raised to a time, and the other bounds stay
pub record IsPutOff (window : Bounds) (gone : List ℕ) (end : ℕ) (child : Bounds) : Type 0 where
  pub lower : IsRaised window.lower gone end child.lower
  pub upper : child.upper ≡ window.upper

-- how far the first of these jobs could still be put off from a time, or none where some would exceed its upper bound
abbrev pub IsSlackAnswer : List ℕ → List ℕ → ℕ → Option ℕ → Type 0
IsSlackAnswer upper gone end (Some slack) = Unit {0}
IsSlackAnswer upper gone end None = (i : ℕ) × Contains gone (number i) × (slice_index upper i < end)
