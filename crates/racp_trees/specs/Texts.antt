-- The text of a certificate, in ASCII. Each line ends with a line feed; numbers are decimal, without leading zeros.
use Rattle.std.specs.Prelude.{ℕ, ◌≤◌, List, [], ◌∷◌, ◌++◌, All, flat_map, codes}
use Rattle.std.specs.Fmt.{decimal}
use Rattle.racp_trees.specs.Trees.{Trees, lines_of}
use Rattle.racp_trees.specs.declared.step.Step.{Step}
use Rattle.racp_trees.specs.declared.step.Step.TheVariants.{L, D, C}

-- a block: a capacity vector, and a tree
pub record Block : Type 0 where
  pub vector : List ℕ
  pub tree : Trees

-- the letter of a line and a blank
abbrev pub step_letter : Step → List ℕ
step_letter (L job) = codes "L "
step_letter (D time) = codes "D "
step_letter (C node) = codes "C "

-- the number on a line
abbrev pub step_number : Step → ℕ
step_number (L job) = job
step_number (D time) = time
step_number (C node) = node

-- `L j`, `D t` or `C n`
unfoldable pub step_line : Step → List ℕ
step_line step = step_letter step ++ (decimal (step_number step) ++ 10 ∷ [])

-- a blank before each number
unfoldable pub numbers_text : List ℕ → List ℕ
numbers_text numbers = flat_map (λ number. codes " " ++ decimal number) numbers

-- `vector a1 .. aR`
unfoldable pub vector_line : List ℕ → List ℕ
vector_line vector = codes "vector" ++ (numbers_text vector ++ 10 ∷ [])

-- the lines of trees
unfoldable pub tree_text : Trees → List ℕ
tree_text trees = flat_map step_line (lines_of trees)

-- the line of the vector, and the lines of the tree
unfoldable pub block_text : Block → List ℕ
block_text block = vector_line block.vector ++ tree_text block.tree

-- the first line and the last
unfoldable pub first_line : List ℕ
first_line = codes "proof" ++ 10 ∷ []

unfoldable pub last_line : List ℕ
last_line = codes "end" ++ 10 ∷ []

-- the text of a certificate of these blocks
unfoldable pub proof_text : List Block → List ℕ
proof_text blocks = first_line ++ (flat_map block_text blocks ++ last_line)

-- the greatest number of a text
abbrev pub most_number : ℕ
most_number = 4294967295

-- the numbers of trees may stand in a text
abbrev pub HasSmallLines : Trees → Type 0
HasSmallLines trees = All (λ step. step_number step ≤ most_number) (lines_of trees)

-- the numbers of a block may
pub record HasSmallNumbers (block : Block) : Type 0 where
  pub vector : All (λ units. units ≤ most_number) block.vector
  pub lines : HasSmallLines block.tree
