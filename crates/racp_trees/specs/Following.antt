-- What a reader that goes line by line has to know: the nodes that are being read, and what has to follow in the text.
use Rattle.std.specs.Prelude.{◌≡◌, ◌⊎◌, ℕ, ◌+◌, ◌<◌, ◌≤◌, List, [], ◌∷◌, ◌++◌, length, slice_index, Contains, AllPairs, flat_map}
use Rattle.racp_model.specs.Project.{Project}
use Rattle.racp_model.specs.Terms.{IsLexBefore}
use Rattle.racp_model.specs.Window.{Bounds}
use Rattle.racp_delay.specs.Alternatives.{IsMinimalDelayingAlternative}
use Rattle.racp_delay.specs.Branching.{IsConflict}
use Rattle.racp_cutset.specs.Covering.{SearchNode}
use Rattle.racp_trees.specs.Children.{AreChildrenOf}
use Rattle.racp_trees.specs.Texts.{Block, HasSmallLines, HasSmallNumbers, tree_text, block_text, last_line}
use Rattle.racp_trees.specs.Trees.{Trees, node_count, divided, Hold, IsNodeOf, IsTooLate, IsCovered}
use Rattle.racp_trees.specs.Certificates.{AllHold, vectors_of}
use Rattle.racp_trees.specs.declared.step.Step.{Step}
use Rattle.racp_trees.specs.declared.step.Step.TheVariants.{L, D, C}

-- a node of a D line that is not closed yet: its number, the node, its active jobs, and the alternative that was read last
pub record OpenNode : Type 0 where
  pub number : ℕ
  pub node : SearchNode
  pub active : List ℕ
  pub last : List ℕ

-- the same, if the children of one alternative more were read
abbrev pub read_on : OpenNode → List ℕ → OpenNode
read_on f gone = record { number = f.number; node = f.node; active = f.active; last = gone }

-- the alternatives of its active jobs after the one that was read last, in their order
pub record AreBehind (p : Project) (f : OpenNode) (lists : List (List ℕ)) : Type 0 where
  pub all : (gone : List ℕ) → IsMinimalDelayingAlternative p f.node.capacities f.active gone → IsLexBefore f.last gone → Contains lists gone
  pub only : (gone : List ℕ) → Contains lists gone → IsMinimalDelayingAlternative p f.node.capacities f.active gone × IsLexBefore f.last gone
  pub in_order : AllPairs IsLexBefore lists

-- the first of them
pub record IsNextBehind (p : Project) (f : OpenNode) (gone : List ℕ) : Type 0 where
  pub minimal : IsMinimalDelayingAlternative p f.node.capacities f.active gone
  pub behind : IsLexBefore f.last gone
  pub first : (other : List ℕ) → IsMinimalDelayingAlternative p f.node.capacities f.active other → IsLexBefore f.last other → (other ≡ gone) ⊎ IsLexBefore gone other

-- there is none
abbrev pub IsNoneBehind : Project → OpenNode → Type 0
IsNoneBehind p f = (other : List ℕ) → IsMinimalDelayingAlternative p f.node.capacities f.active other → IsLexBefore f.last other → ⊥

-- the windows of its children that are still to come
pub record AreToCome (p : Project) (f : OpenNode) (windows : List Bounds) : Type 0 where
  pub lists : List (List ℕ)
  pub behind : AreBehind p f lists
  pub each : AreChildrenOf p f.node.early f.active f.node.window lists windows

-- a text begins with trees that hold for these windows
pub record BeginsWith (p : Project) (capacities : List ℕ) (closed : List (ℕ × SearchNode)) (n : ℕ) (windows : List Bounds) (text : List ℕ) (trees : Trees) (after : List ℕ) : Type 0 where
  pub holds : Hold p capacities closed n windows trees
  pub small : HasSmallLines trees
  pub whole : text ≡ tree_text trees ++ after

-- what has to hold of the closed nodes, the number of the next node and the text, once all open nodes are closed
abbrev pub Ending : Type 1
Ending = List (ℕ × SearchNode) → ℕ → List ℕ → Type 0

-- a text goes on as open nodes ask, the innermost first: with trees for its windows to come; it is then closed, and so on
abbrev pub Follow : Project → List ℕ → Ending → List (ℕ × SearchNode) → ℕ → List OpenNode → List ℕ → Type 0
Follow p capacities Ends closed n [] text = Ends closed n text
Follow p capacities Ends closed n (f ∷ frames) text =
    (windows : List Bounds) × AreToCome p f windows × (trees : Trees) × (after : List ℕ) × BeginsWith p capacities closed n windows text trees after ×
    Follow p capacities Ends (((f.number, f.node) ∷ divided n trees) ++ closed) (n + node_count trees) frames after

-- a text goes on with the tree of a window, and then as open nodes ask
abbrev pub IsNext : Project → List ℕ → Ending → List (ℕ × SearchNode) → ℕ → Bounds → List OpenNode → List ℕ → Type 0
IsNext p capacities Ends closed n window frames text =
    (trees : Trees) × (after : List ℕ) × BeginsWith p capacities closed n (window ∷ []) text trees after ×
    Follow p capacities Ends (divided n trees ++ closed) (n + node_count trees) frames after

-- a node that is divided at this time, with its active jobs
pub record IsOpened (p : Project) (capacities : List ℕ) (window : Bounds) (time : ℕ) (v : SearchNode) (active : List ℕ) : Type 0 where
  pub is : IsNodeOf p capacities window v
  pub below : (i : ℕ) → i < length p.jobs → slice_index v.early i ≤ slice_index v.window.upper i
  pub at : v.time ≡ time
  pub clash : IsConflict p v.capacities v.early v.time active

-- what a line asks of the window's node, and of the text after it
abbrev pub IsStepped : Project → List ℕ → Ending → List (ℕ × SearchNode) → ℕ → Bounds → List OpenNode → Step → List ℕ → Type 0
IsStepped p capacities Ends closed n window frames (L job) more =
    ((v : SearchNode) × IsNodeOf p capacities window v × IsTooLate p v job) × Follow p capacities Ends closed (n + 1) frames more
IsStepped p capacities Ends closed n window frames (C node) more =
    ((v : SearchNode) × IsNodeOf p capacities window v × IsCovered p closed v node) × Follow p capacities Ends closed (n + 1) frames more
IsStepped p capacities Ends closed n window frames (D time) more =
    (v : SearchNode) × (active : List ℕ) × IsOpened p capacities window time v active ×
    Follow p capacities Ends closed (n + 1) (record { number = n; node = v; active = active; last = [] } ∷ frames) more

-- a text ends with blocks that hold and the last line, and after the vectors so far theirs are all that are wanted
pub record IsRest (p : Project) (wanted : List (List ℕ)) (root : Bounds) (vectors : List (List ℕ)) (closed : List (ℕ × SearchNode)) (n : ℕ) (text : List ℕ) : Type 0 where
  pub blocks : List Block
  pub whole : text ≡ flat_map block_text blocks ++ last_line
  pub small : (block : Block) → Contains blocks block → HasSmallNumbers block
  pub hold : AllHold p root closed n blocks
  pub all : vectors ++ vectors_of blocks ≡ wanted
