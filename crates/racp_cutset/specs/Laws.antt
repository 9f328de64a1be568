-- Laws of covering, in the words of the field. Each is the contract of a public function.
use Rattle.std.specs.Prelude.{◌≡◌, ℕ, ◌+◌, ◌<◌, ◌≤◌, ◌&&◌, List, length, slice_index, map, nat_lt, if◌then◌else◌}
use Rattle.std.specs.List.{range_with_len}
use Rattle.racp_model.specs.Project.{Project, IsSound, duration}
use Rattle.racp_model.specs.Schedule.{KeepsPrecedence, usage}
use Rattle.racp_model.specs.Window.{LiesIn, Answers, IsYes, IsNo}
use Rattle.racp_cutset.specs.Covering.{SearchNode, IsNode, IsStarted, Covers}

-- a job starts in the built starts where it starts in the node's early starts, if it is started; but where it starts in
-- the given ones, if it is not started, or if it runs past the node's time and is given a start after the second time
unfoldable pub built_start : Project → SearchNode → ℕ → List ℕ → ℕ → ℕ
built_start p v second given i =
    if nat_lt (slice_index v.early i) v.time
    then (if nat_lt v.time (slice_index v.early i + duration p i) && nat_lt second (slice_index given i)
    then slice_index given i else slice_index v.early i)
    else slice_index given i

-- the start vector that is built from the early starts of a node and given starts
abbrev pub built_starts : Project → SearchNode → ℕ → List ℕ → List ℕ
built_starts p v second given = map (built_start p v second given) (range_with_len 0 (length p.jobs))

-- a start vector takes a job's start from the node's early starts, or from the given ones, by the rule above
pub record IsBuilt (p : Project) (v : SearchNode) (second : ℕ) (given built : List ℕ) : Type 0 where
  pub places : length built ≡ length p.jobs
  pub over : (i : ℕ) → i < length p.jobs → IsStarted v i → slice_index v.early i + duration p i ≤ v.time →
      slice_index built i ≡ slice_index v.early i
  pub before : (i : ℕ) → i < length p.jobs → IsStarted v i → slice_index given i ≤ second →
      slice_index built i ≡ slice_index v.early i
  pub runs : (i : ℕ) → i < length p.jobs → IsStarted v i → v.time < slice_index v.early i + duration p i →
      second < slice_index given i → slice_index built i ≡ slice_index given i
  pub others : (i : ℕ) → i < length p.jobs → v.time ≤ slice_index v.early i → slice_index built i ≡ slice_index given i

-- the start vector that is built takes each job's start by these rules, which name exactly one for each job
abbrev pub StartsAreBuilt : Type 0
StartsAreBuilt = (p : Project) (v : SearchNode) (second : ℕ) (given : List ℕ) →
    IsBuilt p v second given (built_starts p v second given)

-- something holds of the start vector that is built if one node covers another and the given starts answer the
-- other's question
abbrev pub HoldsOfBuilt : (Project → SearchNode → SearchNode → List ℕ → Type 0) → Type 0
HoldsOfBuilt Holds =
    (p : Project) (v w : SearchNode) (given : List ℕ) → IsSound p → IsNode p v → IsNode p w → Covers p v w →
    Answers p w.capacities w.window given → Holds p v w (built_starts p v w.time given)

-- it lies in the window of the first node
abbrev pub BuiltLies : Type 0
BuiltLies = HoldsOfBuilt (λ p v w built. LiesIn p v.window built)

-- it keeps precedence
abbrev pub BuiltKeepsPrecedence : Type 0
BuiltKeepsPrecedence = HoldsOfBuilt (λ p v w built. KeepsPrecedence p built)

-- at each time that has a property it uses at most the capacities of the first node
abbrev pub KeepsCapacitiesAt : (ℕ → Type 0) → Project → SearchNode → List ℕ → Type 0
KeepsCapacitiesAt At p v built = (k t : ℕ) → k < p.resources → At t → usage p built k t ≤ slice_index v.capacities k

-- before the time of the first node
abbrev pub BuiltFitsBefore : Type 0
BuiltFitsBefore = HoldsOfBuilt (λ p v w built. KeepsCapacitiesAt (λ t. t < v.time) p v built)

-- from there to the time of the second node
abbrev pub BuiltFitsBetween : Type 0
BuiltFitsBetween = HoldsOfBuilt (λ p v w built. KeepsCapacitiesAt (λ t. (v.time ≤ t) × (t < w.time)) p v built)

-- and from then on
abbrev pub BuiltFitsAfter : Type 0
BuiltFitsAfter = HoldsOfBuilt (λ p v w built. KeepsCapacitiesAt (λ t. w.time ≤ t) p v built)

-- so it answers the question of the first node
abbrev pub BuiltAnswers : Type 0
BuiltAnswers = HoldsOfBuilt (λ p v w built. Answers p v.capacities v.window built)

-- if the first node covers the second and the second's question has an answer, the first's has one
abbrev pub CoveringKeepsYes : Type 0
CoveringKeepsYes =
    (p : Project) (v w : SearchNode) → IsSound p → IsNode p v → IsNode p w → Covers p v w →
    IsYes p w.capacities w.window → IsYes p v.capacities v.window

-- so a refuted node refutes each node that it covers
abbrev pub CoveringRefutes : Type 0
CoveringRefutes =
    (p : Project) (v w : SearchNode) → IsSound p → IsNode p v → IsNode p w → Covers p v w →
    IsNo p v.capacities v.window → IsNo p w.capacities w.window
