-- Contracts of private functions: a certificate is made, by a reader of the lines that are chosen.
use Rattle.std.specs.Prelude.{◌≡◌, ⊤, ℕ, ◌+◌, ◌<◌, ◌≤◌, List, [], ◌∷◌, ◌++◌, length, true, Option, Some, None, Vec}
use Rattle.std.specs.Global.{Global}
use Rattle.racp_model.specs.Project.{Project}
use Rattle.racp_model.specs.Terms.{AreTermsOf, release_of, due_of}
use Rattle.racp_model.specs.Window.{Bounds, IsRootWindow}
use Rattle.racp_prices.specs.Units.{AreMostUnits}
use Rattle.racp_cutset.specs.Covering.{SearchNode}
use Rattle.racp_trees.specs.Following.{IsRest}
use Rattle.racp_trees.specs.Nodes.{HasPlace}
use Rattle.racp_trees.specs.Readers.{HasRead, AsksNext, IsReady, IsLineAnswer}
use Rattle.racp_trees.specs.Records.{record_at}
use Rattle.racp_trees.specs.Texts.{step_line, step_number, most_number}
use Rattle.racp_trees.specs.declared.certifying.Given.{Given}
use Rattle.racp_trees.specs.declared.closed.Closed.{Closed}
use Rattle.racp_trees.specs.declared.record.Record.{Record}
use Rattle.racp_trees.specs.declared.reader.Reader.{Reader}
use Rattle.racp_trees.specs.declared.step.Step.{Step}
use Rattle.racp_trees.specs.declared.step.Step.TheVariants.{C}

-- what a certificate is made of fits together: the order's terms are those of the network, the window is the root window
-- of the order, the roofs are cut to its ceilings, and there is a capacity for each resource
pub record IsGiven (g : Given) : Type 0 where
  pub terms : AreTermsOf g.claim.net.now g.claim.order.now
  pub root : IsRootWindow g.claim.net.now (release_of g.claim.order.now) (due_of g.claim.order.now) g.root.now
  pub roofs : AreMostUnits g.claim.net.now g.claim.order.now g.claim.roofs.now
  pub capacities : length g.claim.capacities.now ≡ g.claim.net.now.resources

-- some records were forgotten, and places were made for nodes from this number on
pub record IsThinned (old new : Closed) (number : ℕ) : Type 0 where
  pub told : (n : ℕ) (kept : Record) → record_at new n ≡ Some (Some kept) → record_at old n ≡ Some (Some kept)
  pub empty : (n : ℕ) → n < number → record_at new n ≡ Some None → record_at old n ≡ Some None

-- so it is with a reader, which stands where it stood
pub record IsThinnedReader (old new : Reader) : Type 0 where
  pub branches : new.branches ≡ old.branches
  pub number : new.number ≡ old.number
  pub closed : IsThinned old.closed new.closed old.number

-- a line was chosen, which may stand in a text: the node that it names has a place
abbrev pub IsChoice : Reader → Reader → Option Step → Type 0
IsChoice old new None = ⊤
IsChoice old new (Some step) = IsThinnedReader old new × (step_number step ≤ most_number) × ((node : ℕ) → step ≡ C node → HasPlace new.closed node)

-- a line was chosen for a window and added to a text; it holds, and the reader that forgot some records has read it
pub record IsLineMade (p : Project) (capacities : List ℕ) (window : Bounds) (old : Reader) (text : List ℕ) (new : Reader) (whole : List ℕ) : Type 0 where
  pub thin : Reader
  pub thinned : IsThinnedReader old thin
  pub step : Step
  pub little : step_number step ≤ most_number
  pub read : Reader
  pub answer : IsLineAnswer p capacities window thin step true read
  pub branches : new.branches.items ≡ read.branches.items
  pub closed : new.closed ≡ read.closed
  pub number : new.number ≡ thin.number + 1
  pub ready : IsReady p capacities new
  pub kept : (node : ℕ) → HasPlace thin.closed node → HasPlace new.closed node
  pub added : whole ≡ text ++ step_line step

-- the lines of a tree of the root window were added to a text, and what follows a certificate's rest may follow them
pub record HasMadeTree (p : Project) (capacities : List ℕ) (root : Bounds) (old : Reader) (text : List ℕ) (new : Reader) (whole : List ℕ) : Type 0 where
  pub lines : List ℕ
  pub added : whole ≡ text ++ lines
  pub empty : new.branches.items ≡ []
  pub room : new.number ≤ length whole
  pub told : (rest : List ℕ) (wanted : List (List ℕ)) (vectors : List (List ℕ)) (nodes : List (ℕ × SearchNode)) → HasRead p root.upper nodes old →
      (later : List (ℕ × SearchNode)) × HasRead p root.upper later new ×
      (IsRest p wanted root vectors later new.number rest → AsksNext p capacities wanted root vectors nodes old root.lower (lines ++ rest))

-- a block was added to a text: if a certificate's rest follows, with its vector among those so far, the block and that are one
pub record HasMadeBlock (p : Project) (capacities : List ℕ) (root : Bounds) (old : Reader) (text : List ℕ) (new : Reader) (whole : List ℕ) : Type 0 where
  pub lines : List ℕ
  pub added : whole ≡ text ++ lines
  pub empty : new.branches.items ≡ []
  pub room : new.number ≤ length whole
  pub told : (rest : List ℕ) (wanted : List (List ℕ)) (vectors : List (List ℕ)) (nodes : List (ℕ × SearchNode)) → HasRead p root.upper nodes old →
      (later : List (ℕ × SearchNode)) × HasRead p root.upper later new ×
      (IsRest p wanted root (vectors ++ capacities ∷ []) later new.number rest → IsRest p wanted root vectors nodes old.number (lines ++ rest))

-- a block was added to a text, and its vector after those so far
pub record HasAddedBlock (p : Project) (root : Bounds) (old : Reader) (before : List (Vec ℕ Global)) (text : List ℕ) (new : Reader) (blocks : List (Vec ℕ Global)) (whole : List ℕ) : Type 0 where
  pub block : Vec ℕ Global
  pub places : length block.items ≡ p.resources
  pub behind : blocks ≡ before ++ block ∷ []
  pub made : HasMadeBlock p block.items root old text new whole
