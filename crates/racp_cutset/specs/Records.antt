-- What is kept of a refuted node: the node with the early starts of its started jobs as their lower bounds.
use Rattle.std.specs.Prelude.{◌≡◌, ℕ, ◌+◌, ◌<◌, ◌≤◌, List, length, slice_index, map, nat_lt, if◌then◌else◌}
use Rattle.std.specs.List.{range_with_len}
use Rattle.racp_model.specs.Project.{Project, duration}
use Rattle.racp_cutset.specs.Covering.{SearchNode, IsNode, IsStarted, AreStartedBefore}

-- the early start of a started job, the lower bound of another
unfoldable pub settled_bound : SearchNode → ℕ → ℕ
settled_bound v i =
    if nat_lt (slice_index v.early i) v.time then slice_index v.early i else slice_index v.window.lower i

-- the node with these lower bounds: it has the same early starts
abbrev pub settled : Project → SearchNode → SearchNode
settled p v = record {
  capacities = v.capacities;
  window = record { lower = map (settled_bound v) (range_with_len 0 (length p.jobs)); upper = v.window.upper };
  early = v.early;
  time = v.time;
}

-- rows that tell such a node: its capacities and upper bounds, for each job the end if it is started, and the lower
-- bound if not, the set of the started jobs, and the time
pub record IsPacked (p : Project) (capacities upper bounds started : List ℕ) (time : ℕ) (v : SearchNode) : Type 0 where
  pub node : IsNode p v
  pub of_resources : v.capacities ≡ capacities
  pub of_upper : v.window.upper ≡ upper
  pub of_time : v.time ≡ time
  pub places : length bounds ≡ length p.jobs
  pub jobs : AreStartedBefore v.early v.time started
  pub ends : (i : ℕ) → i < length p.jobs → IsStarted v i → slice_index bounds i ≡ slice_index v.early i + duration p i
  pub starts : (i : ℕ) → i < length p.jobs → IsStarted v i → slice_index v.window.lower i ≡ slice_index v.early i
  pub lower : (i : ℕ) → i < length p.jobs → v.time ≤ slice_index v.early i →
      slice_index bounds i ≡ slice_index v.window.lower i

-- the node that rows tell: there is one at most
abbrev pub Told : Project → List ℕ → List ℕ → List ℕ → List ℕ → ℕ → Type 0
Told p capacities upper bounds started time = (v : SearchNode) × ∥ IsPacked p capacities upper bounds started time v ∥₁
