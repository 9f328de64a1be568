-- Laws of conflicts, alternatives and child windows. Each is the contract of a public function.
use Rattle.std.specs.Prelude.{◌≡◌, ◌≢◌, ◌↔◌, ◌⊎◌, ℕ, ◌<◌, ◌≤◌, List, [], ◌∷◌, length, slice_index, Contains}
use Rattle.std.specs.List.Sorted.{IsStrictlyIncreasing}
use Rattle.racp_model.specs.Project.{Project}
use Rattle.racp_model.specs.Schedule.{usage, sum_below}
use Rattle.racp_model.specs.Path.{IsEarly}
use Rattle.racp_model.specs.Window.{Bounds, LiesIn, Answers, IsInside, WindowsCover}
use Rattle.racp_delay.specs.Alternatives.{Splits, load, CanRun, IsMinimalDelayingAlternative, AreAlternatives}
use Rattle.racp_delay.specs.Branching.{IsActiveSet, IsConflict, IsChild}

-- starts in the child window of some minimal alternative other than the whole active set
pub record LiesInSomeChild (p : Project) (capacities early active : List ℕ) (window : Bounds)
    (starts : List ℕ) : Type 0 where
  pub gone : List ℕ
  pub kept : List ℕ
  pub splits : Splits active gone kept
  pub some_stay : kept ≢ []
  pub minimal : IsMinimalDelayingAlternative p capacities active gone
  pub lies : (child : Bounds) → IsChild p early window gone kept child → LiesIn p child starts

-- branching loses nothing: at the first conflict of a window's early starts, whatever answers in the window lies in the
-- child window of some minimal alternative other than the whole active set
abbrev pub BranchingLosesNothing : Type 0
BranchingLosesNothing =
    (p : Project) (capacities : List ℕ) (window : Bounds) (early : List ℕ) (t : ℕ) (active starts : List ℕ) →
    IsEarly p (slice_index window.lower) early → IsConflict p capacities early t active →
    Answers p capacities window starts →
    LiesInSomeChild p capacities early active window starts

-- among some windows is a child for each minimal alternative other than the whole active set
abbrev pub HaveChildren : Project → List ℕ → List ℕ → List ℕ → Bounds → List Bounds → Type 0
HaveChildren p capacities early active window children =
    (gone kept : List ℕ) → Splits active gone kept → kept ≢ [] → IsMinimalDelayingAlternative p capacities active gone →
    (child : Bounds) × Contains children child × IsChild p early window gone kept child

-- so the children cover the window
abbrev pub ChildrenCover : Type 0
ChildrenCover =
    (p : Project) (capacities : List ℕ) (window : Bounds) (early : List ℕ) (t : ℕ) (active : List ℕ)
    (children : List Bounds) →
    IsEarly p (slice_index window.lower) early → IsConflict p capacities early t active →
    HaveChildren p capacities early active window children → WindowsCover p capacities window children

-- a child lies inside its window
abbrev pub ChildIsInside : Type 0
ChildIsInside =
    (p : Project) (early : List ℕ) (window : Bounds) (gone kept : List ℕ) (child : Bounds) →
    IsChild p early window gone kept child → IsInside p window child

-- the sum of the lower bounds of a window
abbrev pub lower_sum : Project → Bounds → ℕ
lower_sum p window = sum_below (length p.jobs) (slice_index window.lower)

-- and the sum of its lower bounds is greater, whichever active jobs go
abbrev pub ChildIsHigher : Type 0
ChildIsHigher =
    (p : Project) (capacities : List ℕ) (window : Bounds) (early : List ℕ) (t : ℕ) (active gone kept : List ℕ)
    (child : Bounds) →
    IsEarly p (slice_index window.lower) early → IsConflict p capacities early t active → Splits active gone kept →
    gone ≢ [] → IsChild p early window gone kept child → lower_sum p window < lower_sum p child

-- in a minimal alternative at a conflict some job goes
abbrev pub SomeJobGoes : Type 0
SomeJobGoes =
    (p : Project) (capacities early : List ℕ) (t : ℕ) (active gone : List ℕ) → IsConflict p capacities early t active →
    IsMinimalDelayingAlternative p capacities active gone → gone ≢ []

-- starts in the child window in which one job goes alone
pub record LiesWhereOneGoes (p : Project) (early active : List ℕ) (window : Bounds) (starts : List ℕ) : Type 0 where
  pub job : ℕ
  pub kept : List ℕ
  pub is_active : Contains active job
  pub splits : Splits active (job ∷ []) kept
  pub some_stay : kept ≢ []
  pub lies : (child : Bounds) → IsChild p early window (job ∷ []) kept child → LiesIn p child starts

-- the windows in which one active job alone is put off, after the first end of the others, cover the window too
abbrev pub EachJobAloneCovers : Type 0
EachJobAloneCovers =
    (p : Project) (capacities : List ℕ) (window : Bounds) (early : List ℕ) (t : ℕ) (active starts : List ℕ) →
    IsEarly p (slice_index window.lower) early → IsConflict p capacities early t active →
    Answers p capacities window starts → LiesWhereOneGoes p early active window starts

-- what the active jobs request together is what is used
abbrev pub LoadIsUsage : Type 0
LoadIsUsage = (p : Project) (starts : List ℕ) (t k : ℕ) (active : List ℕ) → IsActiveSet p starts t active →
    load p k active ≡ usage p starts k t

-- there is a child for each list of jobs that go, if some stay
abbrev pub EachHasChild : Type 0
EachHasChild =
    (p : Project) (early : List ℕ) (window : Bounds) (gone kept : List ℕ) → kept ≢ [] →
    (child : Bounds) × IsChild p early window gone kept child

-- the jobs of a rising list that stay are those that do not go
abbrev pub OthersStay : Type 0
OthersStay =
    (jobs gone kept : List ℕ) → IsStrictlyIncreasing jobs → Splits jobs gone kept →
    (job : ℕ) → Contains kept job ↔ (Contains jobs job × (Contains gone job → ⊥))

-- and what can go are its subsets
abbrev pub SubsetsGo : Type 0
SubsetsGo =
    (jobs gone : List ℕ) → IsStrictlyIncreasing jobs →
    ((kept : List ℕ) × Splits jobs gone kept) ↔
    (IsStrictlyIncreasing gone × ((job : ℕ) → Contains gone job → Contains jobs job))

-- starts have at most one first conflict
abbrev pub ConflictIsOne : Type 0
ConflictIsOne =
    (p : Project) (capacities starts : List ℕ) (t u : ℕ) (a b : List ℕ) → IsConflict p capacities starts t a →
    IsConflict p capacities starts u b → (t ≡ u) × (a ≡ b)

-- there is at most one list of alternatives
abbrev pub AlternativesAreOneList : Type 0
AlternativesAreOneList =
    (p : Project) (capacities active : List ℕ) (a b : List (List ℕ)) → AreAlternatives p capacities active a →
    AreAlternatives p capacities active b → a ≡ b

-- each of some lower bounds is that of others, or is raised to after a time
abbrev pub AreRaisedPast : Project → ℕ → (ℕ → ℕ) → (ℕ → ℕ) → Type 0
AreRaisedPast p t lower raised =
    (i : ℕ) → i < length p.jobs → (raised i ≡ lower i) ⊎ ((lower i ≤ raised i) × (t < raised i))

-- if lower bounds are raised to after a time, the early starts use no more up to that time
abbrev pub RaisingLowersUsage : Type 0
RaisingLowersUsage =
    (p : Project) (t : ℕ) (lower raised : ℕ → ℕ) (early next : List ℕ) →
    IsEarly p lower early → IsEarly p raised next → AreRaisedPast p t lower raised →
    (k s : ℕ) → s ≤ t → usage p next k s ≤ usage p early k s

-- so the early starts of a child have no conflict before that of its window
abbrev pub NoConflictBefore : Type 0
NoConflictBefore =
    (p : Project) (capacities : List ℕ) (window : Bounds) (early : List ℕ) (t : ℕ) (active gone kept : List ℕ)
    (child : Bounds) (next : List ℕ) →
    IsEarly p (slice_index window.lower) early → IsConflict p capacities early t active → Splits active gone kept →
    IsChild p early window gone kept child → IsEarly p (slice_index child.lower) next →
    (k s : ℕ) → k < p.resources → s < t → usage p next k s ≤ slice_index capacities k

-- and none then, if the jobs that stay can run at once
abbrev pub NoConflictThen : Type 0
NoConflictThen =
    (p : Project) (capacities : List ℕ) (window : Bounds) (early : List ℕ) (t : ℕ) (active gone kept : List ℕ)
    (child : Bounds) (next : List ℕ) →
    IsEarly p (slice_index window.lower) early → IsConflict p capacities early t active → Splits active gone kept →
    CanRun p capacities kept → IsChild p early window gone kept child → IsEarly p (slice_index child.lower) next →
    (k : ℕ) → k < p.resources → usage p next k t ≤ slice_index capacities k
