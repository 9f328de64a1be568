-- Contracts of private functions: what is kept of closed nodes, so that nodes that they cover are told.
use Rattle.std.specs.Prelude.{◌≡◌, ◌≢◌, ℕ, ◌+◌, ◌-◌, ◌==◌, ◌<◌, ◌≤◌, min, max, if◌then◌else◌, List, length, slice_index, nat_eq, Option, Some, None}
use Rattle.std.specs.HashMap.{get}
use Rattle.racp_model.specs.Project.{Project, duration}
use Rattle.racp_cutset.specs.Covering.{SearchNode, IsStarted, AreStartedBefore}
use Rattle.racp_trees.specs.Reading.{IsNamed}
use Rattle.racp_trees.specs.declared.record.Record.{Record}
use Rattle.racp_trees.specs.declared.closed.Closed.{Closed}

-- how long a bound is after a time, as far as two bytes can tell
abbrev pub wait_of : ℕ → ℕ → ℕ
wait_of bound time = min 65535 (bound - time)

-- the bound that a wait tells: after the time, or, if two bytes are not enough, the far one
abbrev pub bound_by : ℕ → ℕ → ℕ → ℕ
bound_by time wait far = if wait == 65535 then max time far else time + wait

-- the bound that a record has for the job at a place
abbrev pub bound_at : Record → ℕ → ℕ
bound_at kept i = bound_by kept.time (slice_index kept.waits.items i) (slice_index kept.far.value.items i)

-- the record of a node: of each job its end, if it is started, and its lower bound else; and the node's time if that is later
pub record IsRecordOf (p : Project) (v : SearchNode) (kept : Record) : Type 0 where
  pub capacities : kept.capacities.items ≡ v.capacities
  pub time : kept.time ≡ v.time
  pub started : AreStartedBefore v.early v.time kept.started
  pub places : length kept.waits.items ≡ length p.jobs
  pub ends : (i : ℕ) → i < length p.jobs → IsStarted v i → bound_at kept i ≡ max v.time (slice_index v.early i + duration p i)
  pub lower : (i : ℕ) → i < length p.jobs → v.time ≤ slice_index v.early i → bound_at kept i ≡ max v.time (slice_index v.window.lower i)

-- no bound of the second record is later than that of the first
abbrev pub AreNotEarlier : Record → Record → Type 0
AreNotEarlier first second = (i : ℕ) → i < length second.waits.items → bound_at second i ≤ bound_at first i

-- a record has at least the capacities of another one, the same started jobs, no later time, and no later bounds
pub record RecordCovers (first second : Record) : Type 0 where
  pub capacities : (k : ℕ) → k < length first.capacities.items → slice_index second.capacities.items k ≤ slice_index first.capacities.items k
  pub time : first.time ≤ second.time
  pub started : first.started ≡ second.started
  pub bounds : AreNotEarlier second first

-- rows of one length
pub record AreAlike (first second : Record) : Type 0 where
  pub capacities : length second.capacities.items ≡ length first.capacities.items
  pub bounds : length second.waits.items ≡ length first.waits.items

-- a record for a network
pub record HasRows (p : Project) (kept : Record) : Type 0 where
  pub capacities : length kept.capacities.items ≡ p.resources
  pub bounds : length kept.waits.items ≡ length p.jobs

-- what is kept for the node with a number: none if no line names it, and no record if it is not closed
abbrev pub record_at : Closed → ℕ → Option (Option Record)
record_at closed number = get nat_eq closed.records number

-- each node that a line of a text names has a place, and there is no record yet
pub record AreNamed (text : List ℕ) (closed : Closed) : Type 0 where
  pub named : (node : ℕ) → IsNamed text node → (place : Option Record) × (record_at closed node ≡ Some place)
  pub empty : (node : ℕ) (kept : Record) → record_at closed node ≡ Some (Some kept) → ⊥

-- the record is kept if the node has a place
pub record IsKept (old : Closed) (number : ℕ) (kept : Record) (new : Closed) : Type 0 where
  pub others : (node : ℕ) → node ≢ number → record_at new node ≡ record_at old node
  pub named : (place : Option Record) → record_at old number ≡ Some place → record_at new number ≡ Some (Some kept)
  pub unnamed : record_at old number ≡ None → record_at new number ≡ None

-- the first m numbers of it, in rows
pub record AreBounds (p : Project) (lower early : List ℕ) (time m : ℕ) (bounds : List ℕ) : Type 0 where
  pub places : length bounds ≡ m
  pub ended : (i : ℕ) → i < m → slice_index early i < time → slice_index bounds i ≡ slice_index early i + duration p i
  pub bound : (i : ℕ) → i < m → time ≤ slice_index early i → slice_index bounds i ≡ slice_index lower i

-- the waits of the first m of these bounds
pub record AreWaits (bounds : List ℕ) (time m : ℕ) (waits : List ℕ) : Type 0 where
  pub places : length waits ≡ m
  pub told : (i : ℕ) → i < m → slice_index waits i ≡ wait_of (slice_index bounds i) time

-- the bounds for which two bytes are not enough stand in a row
abbrev pub AreTold : List ℕ → List ℕ → List ℕ → Type 0
AreTold bounds waits row = (i : ℕ) → i < length bounds → slice_index waits i ≡ 65535 → slice_index row i ≡ slice_index bounds i
