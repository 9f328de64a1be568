-- Certificates that no capacities before those of a plan are enough.
use Rattle.std.specs.Prelude.{◌≡◌, ◌↔◌, ℕ, ◌+◌, ◌<◌, ◌≤◌, List, [], ◌∷◌, ◌++◌, length, map, slice_index, Contains, All, Option, Some, None, Vec}
use Rattle.std.specs.Global.{Global}
use Rattle.racp_model.specs.Project.{Project}
use Rattle.racp_model.specs.Schedule.{roof}
use Rattle.racp_model.specs.Terms.{Terms, release_of, due_of, IsBefore}
use Rattle.racp_model.specs.Window.{Bounds, IsRootWindow}
use Rattle.racp_prices.specs.Units.{cut_to}
use Rattle.racp_cutset.specs.Covering.{SearchNode}
use Rattle.racp_trees.specs.Texts.{Block, proof_text, HasSmallNumbers}
use Rattle.racp_trees.specs.Trees.{node_count, divided, Hold}

-- each block refutes the question of its vector with the root window: `closed` are the nodes of D lines that are closed before
-- the first block, and n is the number of its first node
abbrev pub AllHold : Project → Bounds → List (ℕ × SearchNode) → ℕ → List Block → Type 0
AllHold p root closed n [] = Unit {0}
AllHold p root closed n (block ∷ blocks) =
    (length block.vector ≡ p.resources) × Hold p block.vector closed n (root ∷ []) block.tree ×
    AllHold p root (divided n block.tree ++ closed) (n + node_count block.tree) blocks

-- each vector up to the roofs, cut to the ceilings, that stands before the capacities is at most that of some block
abbrev pub AreEnough : Project → Terms → List ℕ → List (List ℕ) → Type 0
AreEnough p terms capacities vectors =
    (v : List ℕ) → length v ≡ p.resources → ((k : ℕ) → k < p.resources → slice_index v k ≤ cut_to terms.ceilings k (roof p k)) → IsBefore terms v capacities →
    (vector : List ℕ) × Contains vectors vector × ((k : ℕ) → k < p.resources → slice_index v k ≤ slice_index vector k)

-- the vectors of blocks
abbrev pub vectors_of : List Block → List (List ℕ)
vectors_of [] = []
vectors_of (block ∷ blocks) = block.vector ∷ vectors_of blocks

-- a text is one of blocks with these vectors, which hold with the root window
pub record HasBlocks (p : Project) (root : Bounds) (vectors : List (List ℕ)) (text : List ℕ) : Type 0 where
  pub blocks : List Block
  pub with_text : text ≡ proof_text blocks
  pub small : All HasSmallNumbers blocks
  pub hold : AllHold p root [] 1 blocks
  pub with_vectors : vectors_of blocks ≡ vectors

-- vectors as the program has them
abbrev pub rows_of : List (Vec ℕ Global) → List (List ℕ)
rows_of rows = map (λ (row : Vec ℕ Global). row.items) rows

-- the vectors of the blocks of a text, or none if it is not one of blocks that hold
abbrev pub IsBlocksAnswer : Project → Bounds → List ℕ → Option (Vec (Vec ℕ Global) Global) → Type 0
IsBlocksAnswer p root text (Some found) = (vectors : List (List ℕ)) → HasBlocks p root vectors text ↔ (rows_of found.items ≡ vectors)
IsBlocksAnswer p root text None = (vectors : List (List ℕ)) → HasBlocks p root vectors text → ⊥

-- a text is a certificate that no capacities before these are enough
pub record IsCertificate (p : Project) (terms : Terms) (capacities text : List ℕ) : Type 0 where
  pub root : Bounds
  pub blocks : List Block
  pub is_root : IsRootWindow p (release_of terms) (due_of terms) root
  pub with_text : text ≡ proof_text blocks
  pub small : All HasSmallNumbers blocks
  pub hold : AllHold p root [] 1 blocks
  pub enough : AreEnough p terms capacities (vectors_of blocks)
