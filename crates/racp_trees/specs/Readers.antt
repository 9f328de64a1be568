-- Contracts of private functions: where a reader of a tree stands.
use Rattle.std.specs.Prelude.{◌≡◌, ◌↔◌, ℕ, ◌+◌, ◌<◌, ◌≤◌, List, [], ◌∷◌, ◌++◌, length, slice_index, Contains, All, AllPairs, Bool, MatchBool, IsTrue, Option, Some, None, Vec}
use Rattle.std.specs.Global.{Global}
use denote.Ref.{Bor}
use Rattle.racp_model.specs.Project.{Project}
use Rattle.racp_model.specs.Limits.{most_bound}
use Rattle.racp_model.specs.Window.{Bounds}
use Rattle.racp_cutset.specs.Covering.{SearchNode}
use Rattle.racp_trees.specs.Trees.{IsNodeOf, IsTooLate}
use Rattle.racp_trees.specs.Rows.{early_of}
use Rattle.racp_trees.specs.Following.{OpenNode, Ending, Follow, IsNext, IsOpened, IsRest}
use Rattle.racp_trees.specs.Branches.{IsBranch, open_node, IsNextChild, IsReadUp}
use Rattle.racp_trees.specs.Records.{IsRecordOf, IsKept}
use Rattle.racp_trees.specs.declared.record.Record.{Record}
use Rattle.racp_trees.specs.Nodes.{AreRecords, HaveRows, HasPlace, IsCoveredHere}
use Rattle.racp_trees.specs.declared.branch.Branch.{Branch}
use Rattle.racp_trees.specs.declared.step.Step.{Step}
use Rattle.racp_trees.specs.declared.step.Step.TheVariants.{L, D, C}
use Rattle.racp_trees.specs.declared.reader.Reader.{Reader}

-- the open nodes of branches, the last one first
abbrev pub open_onto : Project → List ℕ → List ℕ → List OpenNode → List Branch → List OpenNode
open_onto p capacities upper frames [] = frames
open_onto p capacities upper frames (branch ∷ branches) = open_onto p capacities upper (open_node p capacities upper branch ∷ frames) branches

abbrev pub open_nodes : Project → List ℕ → List ℕ → List Branch → List OpenNode
open_nodes p capacities upper branches = open_onto p capacities upper [] branches

-- what holds of a reader whatever was read: records have rows for the network, and branches are nodes of it
pub record IsReady (p : Project) (capacities : List ℕ) (reader : Reader) : Type 0 where
  pub rows : HaveRows p reader.closed
  pub branches : (branch : Branch) → Contains reader.branches.items branch → IsBranch p capacities branch

-- the closed nodes of what was read: the reader has their records, and each number is that of one node
pub record HasRead (p : Project) (upper : List ℕ) (nodes : List (ℕ × SearchNode)) (reader : Reader) : Type 0 where
  pub records : AreRecords p upper nodes reader.closed
  pub closed : (number : ℕ) (v : SearchNode) → Contains nodes (number, v) → number < reader.number
  pub opened : (branch : Branch) → Contains reader.branches.items branch → branch.number < reader.number
  pub fits : (branch : Branch) → Contains reader.branches.items branch → (i : ℕ) → i < length p.jobs → slice_index (early_of p branch.lower) i ≤ slice_index upper i
  pub rising : AllPairs (λ (a : Branch) (b : Branch). a.number < b.number) reader.branches.items
  pub apart : (branch : Branch) → Contains reader.branches.items branch → (v : SearchNode) → Contains nodes (branch.number, v) → ⊥

-- the node with the next number is divided and open
pub record IsOpenedBy (p : Project) (capacities : List ℕ) (window : Bounds) (time : ℕ) (old new : Reader) : Type 0 where
  pub branch : Branch
  pub is : IsBranch p capacities branch
  pub opened : IsOpened p capacities window time (open_node p capacities window.upper branch).node branch.active
  pub number : branch.number ≡ old.number
  pub last : branch.last.items ≡ []
  pub branches : new.branches.items ≡ old.branches.items ++ branch ∷ []
  pub closed : new.closed ≡ old.closed

-- whether a line holds of the node of a window; if it divides the node, that is open then
abbrev pub IsLineAnswer : Project → List ℕ → Bounds → Reader → Step → Bool → Reader → Type 0
IsLineAnswer p capacities window old (L job) yes' new =
    (new.branches.items ≡ old.branches.items) × (new.closed ≡ old.closed) × (IsTrue yes' ↔ ((v : SearchNode) × IsNodeOf p capacities window v × IsTooLate p v job))
IsLineAnswer p capacities window old (C node) yes' new =
    (new.branches.items ≡ old.branches.items) × (new.closed ≡ old.closed) ×
    ((nodes : List (ℕ × SearchNode)) → AreRecords p window.upper nodes old.closed → IsTrue yes' ↔ IsCoveredHere p capacities window nodes node)
IsLineAnswer p capacities window old (D time) yes' new =
    MatchBool yes' (IsOpenedBy p capacities window time old new) ((v : SearchNode) (active : List ℕ) → IsOpened p capacities window time v active → ⊥)

-- what has to follow the tree of a block: the rest of a certificate, if these are the vectors of all blocks and of those so far
abbrev pub rest_of : Project → List (List ℕ) → Bounds → List (List ℕ) → Ending
rest_of p wanted root vectors = λ closed n text. IsRest p wanted root vectors closed n text

-- a text goes on as the open nodes of a reader ask; and then as a certificate does
abbrev pub Asks : Project → List ℕ → List (List ℕ) → Bounds → List (List ℕ) → List (ℕ × SearchNode) → Reader → List ℕ → Type 0
Asks p capacities wanted root vectors nodes reader text =
    Follow p capacities (rest_of p wanted root vectors) nodes reader.number (open_nodes p capacities root.upper reader.branches.items) text

-- the same, if the tree of the window with these lower bounds is next
abbrev pub AsksNext : Project → List ℕ → List (List ℕ) → Bounds → List (List ℕ) → List (ℕ × SearchNode) → Reader → List ℕ → List ℕ → Type 0
AsksNext p capacities wanted root vectors nodes reader lower text =
    IsNext p capacities (rest_of p wanted root vectors) nodes reader.number (record { lower = lower; upper = root.upper }) (open_nodes p capacities root.upper reader.branches.items) text

-- a reader passes on, and asks the same of each text, of the nodes that are closed then
abbrev pub IsPassedOn : Project → List ℕ → Bounds → Reader → Reader → Type 0
IsPassedOn p capacities root old new =
    (wanted vectors : List (List ℕ)) (nodes : List (ℕ × SearchNode)) (text : List ℕ) → HasRead p root.upper nodes old →
    (later : List (ℕ × SearchNode)) × HasRead p root.upper later new × (Asks p capacities wanted root vectors nodes old text ↔ Asks p capacities wanted root vectors later new text)

-- it passes on to a next window
abbrev pub IsPassedTo : Project → List ℕ → Bounds → Reader → Reader → List ℕ → Type 0
IsPassedTo p capacities root old new lower =
    (wanted vectors : List (List ℕ)) (nodes : List (ℕ × SearchNode)) (text : List ℕ) → HasRead p root.upper nodes old →
    (later : List (ℕ × SearchNode)) × HasRead p root.upper later new × (Asks p capacities wanted root vectors nodes old text ↔ AsksNext p capacities wanted root vectors later new lower text)

-- the next window, or that no node is open any more
abbrev pub IsNextAnswer : Project → List ℕ → Bounds → Reader → Reader → Option (Vec ℕ Global) → Type 0
IsNextAnswer p capacities root old new (Some lower) =
    (length lower.items ≡ length p.jobs) × All (λ x. x ≤ most_bound) lower.items × IsPassedTo p capacities root old new lower.items
IsNextAnswer p capacities root old new None = (new.branches.items ≡ []) × IsPassedOn p capacities root old new

-- what lines name has its place still
pub record StaysReady (p : Project) (capacities : List ℕ) (old new : Reader) : Type 0 where
  pub ready : IsReady p capacities new
  pub number : new.number ≡ old.number
  pub places : (node : ℕ) → HasPlace old.closed node → HasPlace new.closed node

-- a branch that was taken off is closed, and its record is kept
abbrev pub IsClosedBy : Project → List ℕ → Reader → Branch → Reader → Type 0
IsClosedBy p capacities old branch new =
    (kept : Record) × (new.branches.items ≡ old.branches.items) × (new.number ≡ old.number) × IsKept old.closed branch.number kept new.closed ×
    ((upper : List ℕ) → IsRecordOf p (open_node p capacities upper branch).node kept)

-- it goes on to its next child, or is closed
abbrev pub IsGoneOn : Project → List ℕ → Reader → Branch → Reader → Option (Vec ℕ Global) → Type 0
IsGoneOn p capacities old branch new (Some lower) =
    (next : Branch) × (new.branches.items ≡ old.branches.items ++ next ∷ []) × (new.closed ≡ old.closed) × (new.number ≡ old.number) × (next.number ≡ branch.number) × (next.lower ≡ branch.lower) ×
    IsBranch p capacities next × IsNextChild p capacities branch next lower.items
IsGoneOn p capacities old branch new None =
    IsClosedBy p capacities old branch new × ((upper : List ℕ) → IsReadUp p (open_node p capacities upper branch))

-- the tree of the root window was read from a text: what is left, and that the text is a certificate's rest exactly if that is
pub record HasReadTree (p : Project) (capacities : List ℕ) (root : Bounds) (old : Reader) (text : List ℕ) (new : Reader) (rest : List ℕ) : Type 0 where
  pub ready : IsReady p capacities new
  pub places : (node : ℕ) → HasPlace old.closed node → HasPlace new.closed node
  pub empty : new.branches.items ≡ []
  pub front : List ℕ
  pub whole : text ≡ front ++ rest
  pub lines : (more : List ℕ) × (front ≡ more ++ 10 ∷ [])
  pub room : new.number + length rest ≤ old.number + length text
  pub told : (wanted vectors : List (List ℕ)) (nodes : List (ℕ × SearchNode)) → HasRead p root.upper nodes old →
      (later : List (ℕ × SearchNode)) × HasRead p root.upper later new ×
      (AsksNext p capacities wanted root vectors nodes old root.lower text ↔ IsRest p wanted root vectors later new.number rest)

-- what reading a tree answers: what is left, or none if a text does not begin with one that holds
abbrev pub IsTreeAnswer : Project → List ℕ → Bounds → Reader → List ℕ → Reader → Option (Bor (List ℕ)) → Type 0
IsTreeAnswer p capacities root old text new (Some rest) = HasReadTree p capacities root old text new rest.now
IsTreeAnswer p capacities root old text new None =
    (wanted vectors : List (List ℕ)) (nodes : List (ℕ × SearchNode)) → HasRead p root.upper nodes old → AsksNext p capacities wanted root vectors nodes old root.lower text → ⊥
