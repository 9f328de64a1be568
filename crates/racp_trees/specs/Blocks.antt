-- Contracts of private functions: reading the blocks of a certificate.
use Rattle.std.specs.Prelude.{◌≡◌, ◌↔◌, ℕ, ◌+◌, ◌<◌, ◌≤◌, List, [], ◌∷◌, ◌++◌, length, Option, Some, None, Vec}
use Rattle.std.specs.Global.{Global}
use denote.Ref.{Bor}
use Rattle.racp_model.specs.Project.{Project}
use Rattle.racp_model.specs.Window.{Bounds}
use Rattle.racp_cutset.specs.Covering.{SearchNode}
use Rattle.racp_trees.specs.Texts.{last_line}
use Rattle.racp_trees.specs.Certificates.{rows_of}
use Rattle.racp_trees.specs.Following.{IsRest}
use Rattle.racp_trees.specs.Reading.{IsNamed}
use Rattle.racp_trees.specs.Nodes.{HaveRows, HasPlace}
use Rattle.racp_trees.specs.Readers.{HasRead}
use Rattle.racp_trees.specs.declared.reader.Reader.{Reader}

-- a reader between two blocks: records have rows for the network, and no node is open
pub record IsBetween (p : Project) (reader : Reader) : Type 0 where
  pub rows : HaveRows p reader.closed
  pub none_open : reader.branches.items ≡ []

-- a block was read from a text: its vector and what is left, and that the text is a certificate's rest exactly if that is
pub record HasReadBlock (p : Project) (root : Bounds) (old : Reader) (text : List ℕ) (new : Reader) (vector rest : List ℕ) : Type 0 where
  pub between : IsBetween p new
  pub places : (node : ℕ) → HasPlace old.closed node → HasPlace new.closed node
  pub named : (node : ℕ) → IsNamed rest node → IsNamed text node
  pub size : length vector ≡ p.resources
  pub shorter : length rest < length text
  pub room : new.number + length rest ≤ old.number + length text
  pub told : (wanted vectors : List (List ℕ)) (nodes : List (ℕ × SearchNode)) → HasRead p root.upper nodes old →
      (later : List (ℕ × SearchNode)) × HasRead p root.upper later new ×
      (IsRest p wanted root vectors nodes old.number text ↔ IsRest p wanted root (vectors ++ vector ∷ []) later new.number rest)

-- what reading a block answers: its vector and what is left, or none if no more of a certificate can stand there than the last line
abbrev pub IsBlockRead : Project → Bounds → Reader → List ℕ → Reader → Option (Vec ℕ Global × Bor (List ℕ)) → Type 0
IsBlockRead p root old text new (Some x) = HasReadBlock p root old text new x.0.items x.1.now
IsBlockRead p root old text new None =
    (wanted vectors : List (List ℕ)) (nodes : List (ℕ × SearchNode)) → HasRead p root.upper nodes old → IsRest p wanted root vectors nodes old.number text → text ≡ last_line

-- what reading all blocks answers: their vectors, or none if the text is no certificate's rest
abbrev pub AreBlocksRead : Project → Bounds → Reader → List ℕ → Option (Vec (Vec ℕ Global) Global) → Type 0
AreBlocksRead p root reader text (Some found) =
    (wanted : List (List ℕ)) (nodes : List (ℕ × SearchNode)) → HasRead p root.upper nodes reader → IsRest p wanted root [] nodes reader.number text ↔ (rows_of found.items ≡ wanted)
AreBlocksRead p root reader text None =
    (wanted : List (List ℕ)) (nodes : List (ℕ × SearchNode)) → HasRead p root.upper nodes reader → IsRest p wanted root [] nodes reader.number text → ⊥
