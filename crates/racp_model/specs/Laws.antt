-- Laws of the definitions, in the words of the field. Each is the contract of a public function.
use Rattle.std.specs.Prelude.{◌≡◌, ◌↔◌, ◌⊎◌, ℕ, ◌<◌, ◌≤◌, min, List, length, slice_index}
use Rattle.racp_model.specs.Project.{Project, request, IsWithinLimits, AreNumbers, IsAcyclic, IsSound}
use Rattle.racp_model.specs.Schedule.{IsActive, use_of, IsInTime, Fits, Admits, roof}
use Rattle.racp_model.specs.Path.{HasRing}
use Rattle.racp_model.specs.Terms.{Terms, cost, IsLexBefore, IsBefore}
use Rattle.racp_model.specs.Plan.{IsPlan}
use Rattle.racp_model.specs.Window.{Bounds, LiesIn, IsRootWindow, IsInside}
use Rattle.racp_model.specs.Made.{IsSameProject}

-- there is at most one plan
abbrev pub PlanIsUnique : Type 0
PlanIsUnique =
    (p : Project) (terms : Terms) (a b s t : List ℕ) → IsPlan p terms a s → IsPlan p terms b t → (a ≡ b) × (s ≡ t)

-- capacity vectors stand in one order: of two, one stands before the other or they are equal
abbrev pub VectorsAreOrdered : Type 0
VectorsAreOrdered = (terms : Terms) (a b : List ℕ) → IsBefore terms a b ⊎ ((a ≡ b) ⊎ IsBefore terms b a)

-- a vector stands before another exactly if it costs less, or costs the same and is lexicographically less
abbrev pub BeforeIsByCost : Type 0
BeforeIsByCost =
    (terms : Terms) (a b : List ℕ) → IsBefore terms a b ↔
    ((cost terms a < cost terms b) ⊎ ((cost terms a ≡ cost terms b) × IsLexBefore a b))

-- of two vectors of one length, the first is lexicographically less exactly if it has the lesser number at some place
-- and the same numbers before it
abbrev pub LexIsByFirstPlace : Type 0
LexIsByFirstPlace =
    (a b : List ℕ) → length a ≡ length b →
    IsLexBefore a b ↔ ((k : ℕ) × (k < length a) × ((q : ℕ) → q < k → slice_index a q ≡ slice_index b q) ×
    (slice_index a k < slice_index b k))

-- a job uses its request while it is active, and nothing while it is not
abbrev pub UseIsByActivity : Type 0
UseIsByActivity =
    (p : Project) (starts : List ℕ) (k t i : ℕ) →
    (IsActive p starts t i → use_of p starts k t i ≡ request p i k) ×
    ((IsActive p starts t i → ⊥) → use_of p starts k t i ≡ 0)

-- what fits some capacities fits greater ones, so a vector at or above one that admits admits
abbrev pub AboveAdmits : Type 0
AboveAdmits =
    (p : Project) (release due : ℕ → ℕ) (a b : List ℕ) →
    ((k : ℕ) → k < p.resources → slice_index a k ≤ slice_index b k) →
    Admits p release due a → Admits p release due b

-- a vector cut to the roofs
abbrev pub IsCutToRoofs : Project → List ℕ → List ℕ → Type 0
IsCutToRoofs p whole cut = (k : ℕ) → k < p.resources → slice_index cut k ≡ min (slice_index whole k) (roof p k)

-- a vector that is cut to the roofs fits the same schedules, so it admits where it did
abbrev pub CutFitsTheSame : Type 0
CutFitsTheSame = (p : Project) (whole cut starts : List ℕ) → IsCutToRoofs p whole cut →
    Fits p whole starts ↔ Fits p cut starts

abbrev pub CutAdmits : Type 0
CutAdmits =
    (p : Project) (release due : ℕ → ℕ) (whole cut : List ℕ) → IsCutToRoofs p whole cut →
    Admits p release due whole → Admits p release due cut

-- what lies in a window inside the root window is in time
abbrev pub InsideIsInTime : Type 0
InsideIsInTime =
    (p : Project) (release due : ℕ → ℕ) (root window : Bounds) (starts : List ℕ) →
    IsRootWindow p release due root → IsInside p root window → LiesIn p window starts → IsInTime p release due starts

-- a project has a ranking or a ring, and never both
abbrev pub RankingOrRing : Type 0
RankingOrRing =
    (p : Project) → AreNumbers (length p.jobs) p.arcs → (IsAcyclic p ⊎ HasRing p) × (IsAcyclic p → HasRing p → ⊥)

-- two networks of the same resources, jobs and relation are equal
abbrev pub RelationIsNetwork : Type 0
RelationIsNetwork = (p q : Project) → IsSound p → IsSound q → IsSameProject p q → p ≡ q

-- a project without a ring that keeps the limits and whose pairs name its jobs has a network of the same relation
abbrev pub AcyclicHasNetwork : Type 0
AcyclicHasNetwork =
    (given : Project) → IsWithinLimits given.resources given.jobs → AreNumbers (length given.jobs) given.arcs →
    IsAcyclic given →
    (made : Project) × IsSameProject given made × IsSound made
