-- Contracts of private functions: what lines say of nodes, told by records of closed nodes.
use Rattle.std.specs.Prelude.{◌≡◌, ℕ, List, length, Contains, Option, Some, None}
use Rattle.racp_model.specs.Project.{Project}
use Rattle.racp_model.specs.Window.{Bounds}
use Rattle.racp_delay.specs.Branching.{IsConflict}
use Rattle.racp_cutset.specs.Covering.{SearchNode, IsNode, FitsBeforeTime}
use Rattle.racp_trees.specs.Trees.{IsNodeOf, IsCovered}
use Rattle.racp_trees.specs.Enough.{IsAtMost}
use Rattle.racp_trees.specs.Records.{IsRecordOf, HasRows, record_at}
use Rattle.racp_trees.specs.declared.record.Record.{Record}
use Rattle.racp_trees.specs.declared.closed.Closed.{Closed}

-- no early start exceeds its upper bound, and the first conflict is at this time, with these active jobs; or that is not so
abbrev pub IsDivisionAnswer : Project → List ℕ → List ℕ → List ℕ → ℕ → Option (List ℕ) → Type 0
IsDivisionAnswer p capacities upper early time (Some active) = IsAtMost (length early) early upper × IsConflict p capacities early time active
IsDivisionAnswer p capacities upper early time None = (active : List ℕ) → IsAtMost (length early) early upper → IsConflict p capacities early time active → ⊥

-- each record has rows for the network
abbrev pub HaveRows : Project → Closed → Type 0
HaveRows p closed = (number : ℕ) (kept : Record) → record_at closed number ≡ Some (Some kept) → HasRows p kept

-- a line names this number
abbrev pub HasPlace : Closed → ℕ → Type 0
HasPlace closed number = (place : Option Record) × (record_at closed number ≡ Some place)

-- the records are those of the closed nodes that lines name; the nodes have these upper bounds, and a number is that of one node
pub record AreRecords (p : Project) (upper : List ℕ) (nodes : List (ℕ × SearchNode)) (closed : Closed) : Type 0 where
  pub one : (number : ℕ) (v w : SearchNode) → Contains nodes (number, v) → Contains nodes (number, w) → v ≡ w
  pub node : (number : ℕ) (v : SearchNode) → Contains nodes (number, v) → IsNode p v
  pub fits : (number : ℕ) (v : SearchNode) → Contains nodes (number, v) → FitsBeforeTime p v
  pub bounds : (number : ℕ) (v : SearchNode) → Contains nodes (number, v) → v.window.upper ≡ upper
  pub told : (number : ℕ) (kept : Record) → record_at closed number ≡ Some (Some kept) → (v : SearchNode) × Contains nodes (number, v) × IsRecordOf p v kept
  pub all : (number : ℕ) (v : SearchNode) → Contains nodes (number, v) → record_at closed number ≡ Some None → ⊥

-- the closed node with a number covers the node of a window, at its first conflict
abbrev pub IsCoveredHere : Project → List ℕ → Bounds → List (ℕ × SearchNode) → ℕ → Type 0
IsCoveredHere p capacities window nodes number = (v : SearchNode) × IsNodeOf p capacities window v × IsCovered p nodes v number
