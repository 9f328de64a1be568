-- Trees of nodes of the search, as a certificate has them: each line says why the question of its node is infeasible.
use Rattle.std.specs.Prelude.{◌≡◌, ℕ, ◌+◌, ◌<◌, ◌≤◌, List, [], ◌∷◌, ◌++◌, length, slice_index, Contains}
use Rattle.racp_model.specs.Project.{Project, place, IsNumber}
use Rattle.racp_model.specs.Path.{IsEarly}
use Rattle.racp_model.specs.Window.{Bounds, IsNo}
use Rattle.racp_delay.specs.Branching.{IsFirstExcess, IsConflict}
use Rattle.racp_cutset.specs.Covering.{SearchNode, IsNode, Covers}
use Rattle.racp_trees.specs.Children.{AreChildren}
use Rattle.racp_trees.specs.declared.step.Step.{Step}
use Rattle.racp_trees.specs.declared.step.Step.TheVariants.{L, D, C}

-- trees, one after another: of the first its node, what its line says and the trees of its children; then the others
pub data Trees : Type 0 where
  none : Trees
  tree : SearchNode → Step → Trees → Trees → Trees

-- the lines of trees: a node, its children in order, and then the next tree
unfoldable pub lines_of : Trees → List Step
lines_of none = []
lines_of (tree v step children others) = step ∷ (lines_of children ++ lines_of others)

-- how many nodes trees have
abbrev pub node_count : Trees → ℕ
node_count trees = length (lines_of trees)

-- the nodes of D lines, each with its number, if the first node of the trees has number n: what a C line after the trees
-- may name
unfoldable pub divided : ℕ → Trees → List (ℕ × SearchNode)
divided n none = []
divided n (tree v (L job) children others) = divided (n + 1) others
divided n (tree v (C node) children others) = divided (n + 1) others
divided n (tree v (D time) children others) = (n, v) ∷ (divided (n + 1) children ++ divided (n + 1 + node_count children) others)

-- a node is that of a window
pub record IsNodeOf (p : Project) (capacities : List ℕ) (window : Bounds) (v : SearchNode) : Type 0 where
  pub of_resources : v.capacities ≡ capacities
  pub placed : v.window ≡ window
  pub early : IsEarly p (slice_index window.lower) v.early

-- L: the early start of a job exceeds its upper bound
pub record IsTooLate (p : Project) (v : SearchNode) (job : ℕ) : Type 0 where
  pub named : IsNumber (length p.jobs) job
  pub late : slice_index v.window.upper (place job) < slice_index v.early (place job)

-- D: no early start does, and their first conflict is at this time; the windows of the children are these
pub record IsDivided (p : Project) (v : SearchNode) (time : ℕ) (windows : List Bounds) : Type 0 where
  pub below : (i : ℕ) → i < length p.jobs → slice_index v.early i ≤ slice_index v.window.upper i
  pub at : v.time ≡ time
  pub active : List ℕ
  pub clash : IsConflict p v.capacities v.early v.time active
  pub children : AreChildren p v.capacities v.early active v.window windows

-- C: the node's time is its first conflict, and a closed node of this number covers it
pub record IsCovered (p : Project) (closed : List (ℕ × SearchNode)) (v : SearchNode) (node : ℕ) : Type 0 where
  pub first : IsFirstExcess p v.capacities v.early v.time
  pub by : SearchNode
  pub is_closed : Contains closed (node, by)
  pub covers : Covers p by v

-- trees hold for windows, one tree for each: `closed` are the nodes of D lines that are closed before, and n is the number of
-- the first node
abbrev pub Hold : Project → List ℕ → List (ℕ × SearchNode) → ℕ → List Bounds → Trees → Type 0
Hold p capacities closed n [] none = Unit {0}
Hold p capacities closed n [] (tree v step children others) = ⊥
Hold p capacities closed n (window ∷ windows) none = ⊥
Hold p capacities closed n (window ∷ windows) (tree v (L job) children others) =
    IsNodeOf p capacities window v × IsTooLate p v job × (children ≡ none) × Hold p capacities closed (n + 1) windows others
Hold p capacities closed n (window ∷ windows) (tree v (C node) children others) =
    IsNodeOf p capacities window v × IsCovered p closed v node × (children ≡ none) × Hold p capacities closed (n + 1) windows others
Hold p capacities closed n (window ∷ windows) (tree v (D time) children others) =
    IsNodeOf p capacities window v ×
    ((parts : List Bounds) × IsDivided p v time parts × Hold p capacities closed (n + 1) parts children) ×
    Hold p capacities (((n, v) ∷ divided (n + 1) children) ++ closed) (n + 1 + node_count children) windows others

-- closed nodes are refuted
abbrev pub AreRefutedNodes : Project → List (ℕ × SearchNode) → Type 0
AreRefutedNodes p closed = (n : ℕ) (v : SearchNode) → Contains closed (n, v) → IsNode p v × IsNo p v.capacities v.window
