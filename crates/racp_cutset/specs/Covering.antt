-- When the refutation of one node of the search refutes another: cutsets (Demeulemeester and Herroelen 1992), changed
-- in that the capacities and the bounds of the windows are compared too, and only refuted nodes are recorded.
use Rattle.std.specs.Prelude.{◌≡◌, ◌↔◌, ℕ, ◌+◌, ◌<◌, ◌≤◌, max, List, length, slice_index, Contains}
use Rattle.std.specs.List.Sorted.{IsStrictlyIncreasing}
use Rattle.racp_model.specs.Project.{Project, place, IsNumber, duration}
use Rattle.racp_model.specs.Schedule.{usage}
use Rattle.racp_model.specs.Path.{IsEarly}
use Rattle.racp_model.specs.Window.{Bounds, IsNo}

-- a node of the search: the capacities and the window of a question, the early starts of the window, and a time
pub record SearchNode : Type 0 where
  pub capacities : List ℕ
  pub window : Bounds
  pub early : List ℕ
  pub time : ℕ

-- a node of a project: a capacity for each resource, bounds for each job, and the early starts are those of its window
pub record IsNode (p : Project) (v : SearchNode) : Type 0 where
  pub resources : length v.capacities ≡ p.resources
  pub lower : length v.window.lower ≡ length p.jobs
  pub upper : length v.window.upper ≡ length p.jobs
  pub early : IsEarly p (slice_index v.window.lower) v.early

-- the started jobs of a node: those that start before its time
abbrev pub IsStarted : SearchNode → ℕ → Type 0
IsStarted v i = slice_index v.early i < v.time

-- node v has at least the capacities of node w
abbrev pub HasCapacitiesOf : Project → SearchNode → SearchNode → Type 0
HasCapacitiesOf p v w = (k : ℕ) → k < p.resources → slice_index w.capacities k ≤ slice_index v.capacities k

-- node v has at least the upper bounds of node w
abbrev pub HasUpperOf : Project → SearchNode → SearchNode → Type 0
HasUpperOf p v w = (i : ℕ) → i < length p.jobs → slice_index w.window.upper i ≤ slice_index v.window.upper i

-- node v has at least both
pub record HasRoomOf (p : Project) (v w : SearchNode) : Type 0 where
  pub capacities : HasCapacitiesOf p v w
  pub upper : HasUpperOf p v w

-- the same jobs are started in both nodes, and the time of v is no later
pub record HasCutsetOf (p : Project) (v w : SearchNode) : Type 0 where
  pub started : (i : ℕ) → i < length p.jobs → IsStarted v i ↔ IsStarted w i
  pub time : v.time ≤ w.time

-- each started job ends in v no later than in w, or by the time of w
abbrev pub EndsNoLater : Project → SearchNode → SearchNode → Type 0
EndsNoLater p v w =
    (i : ℕ) → i < length p.jobs → IsStarted v i →
    slice_index v.early i + duration p i ≤ max w.time (slice_index w.early i + duration p i)

-- each other job may start in v as early as in w, or at the time of w
abbrev pub MayStartAsEarly : Project → SearchNode → SearchNode → Type 0
MayStartAsEarly p v w =
    (i : ℕ) → i < length p.jobs → v.time ≤ slice_index v.early i →
    slice_index v.window.lower i ≤ max w.time (slice_index w.window.lower i)

-- before the node's time its early starts keep the capacities, and the started jobs keep their upper bounds
pub record FitsBeforeTime (p : Project) (v : SearchNode) : Type 0 where
  pub within : (k t : ℕ) → k < p.resources → t < v.time → usage p v.early k t ≤ slice_index v.capacities k
  pub below : (i : ℕ) → i < length p.jobs → IsStarted v i → slice_index v.early i ≤ slice_index v.window.upper i

-- node v covers node w
pub record Covers (p : Project) (v w : SearchNode) : Type 0 where
  pub room : HasRoomOf p v w
  pub cutset : HasCutsetOf p v w
  pub ends : EndsNoLater p v w
  pub lower : MayStartAsEarly p v w
  pub fits : FitsBeforeTime p v

-- a refuted node that can serve as a record: it fits before its time, and its question is infeasible
pub record IsRefutedNode (p : Project) (v : SearchNode) : Type 0 where
  pub fits : FitsBeforeTime p v
  pub refuted : IsNo p v.capacities v.window

-- when each job ends in the early starts of a node
pub record AreEnds (p : Project) (early ends : List ℕ) : Type 0 where
  pub places : length ends ≡ length p.jobs
  pub each : (i : ℕ) → i < length p.jobs → slice_index ends i ≡ slice_index early i + duration p i

-- the numbers of the jobs that start before a time, rising
pub record AreStartedBefore (early : List ℕ) (time : ℕ) (started : List ℕ) : Type 0 where
  pub rises : IsStrictlyIncreasing started
  pub members : (job : ℕ) → Contains started job ↔
      (IsNumber (length early) job × (slice_index early (place job) < time))
