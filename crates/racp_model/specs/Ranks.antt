-- Contracts of private functions: those that sort the pairs, rank the jobs along them, and put them in topological order.
use Rattle.std.specs.Prelude.{◌≡◌, ◌≢◌, ◌↔◌, ℕ, ◌-◌, ◌<◌, ◌≤◌, nat_lt, if◌then◌else◌, List, length, slice_index, slice_index_or, Contains, Result, Ok, Err, Vec, AllPairs}
use Rattle.std.specs.Global.{Global}
use Rattle.racp_model.specs.Project.{IsArcBefore}
use Rattle.racp_model.specs.Schedule.{sum_below}
use Rattle.racp_model.specs.declared.fault.NetFault.{NetFault}
use Rattle.racp_model.specs.declared.fault.NetFault.TheVariants.{Limit, BadJob, Cycle, Memory}
use Rattle.racp_model.specs.declared.topology.Sweep.{Sweep}
use Rattle.racp_model.specs.declared.topology.Sweep.TheVariants.{Settled, Raised, Ring}

-- the places of the two jobs that the pair of numbers at k names
unfoldable pub from_at : List (ℕ × ℕ) → ℕ → ℕ
from_at arcs k = (slice_index_or arcs k (1, 1)).0 - 1

unfoldable pub to_at : List (ℕ × ℕ) → ℕ → ℕ
to_at arcs k = (slice_index_or arcs k (1, 1)).1 - 1

-- the rank rises along each pair of numbers
abbrev pub RisesAlong : List (ℕ × ℕ) → (ℕ → ℕ) → Type 0
RisesAlong arcs rank = (k : ℕ) → k < length arcs → rank (from_at arcs k) < rank (to_at arcs k)

-- the pairs can be ranked
abbrev pub IsRankable : List (ℕ × ℕ) → Type 0
IsRankable arcs = (rank : ℕ → ℕ) × RisesAlong arcs rank

-- 1 if job j has a lower rank than job i
unfoldable pub is_lower : (ℕ → ℕ) → ℕ → ℕ → ℕ
is_lower rank i j = if nat_lt (rank j) (rank i) then 1 else 0

-- how many of n jobs have a lower rank than job i
abbrev pub lower_count : ℕ → (ℕ → ℕ) → ℕ → ℕ
lower_count n rank i = sum_below n (is_lower rank i)

-- each rank is below a bound
abbrev pub AreBelow : ℕ → List ℕ → Type 0
AreBelow bound rank = (i : ℕ) → i < length rank → slice_index rank i < bound

-- no rank is above what any ranking of the pairs allows
abbrev pub IsLowUnder : (ℕ → ℕ) → List ℕ → Type 0
IsLowUnder ranking rank = (i : ℕ) → i < length rank → slice_index rank i ≤ lower_count (length rank) ranking i

-- the sum of the ranks
abbrev pub total : List ℕ → ℕ
total rank = sum_below (length rank) (slice_index rank)

-- ranks that a sweep raised, and not too far
pub record IsRaised (arcs : List (ℕ × ℕ)) (old new : List ℕ) : Type 0 where
  pub places : length new ≡ length old
  pub below : AreBelow (length old) new
  pub more : total old < total new
  pub low : (ranking : ℕ → ℕ) → RisesAlong arcs ranking → IsLowUnder ranking old → IsLowUnder ranking new

-- what a sweep over the pairs says of the ranks before and after it
abbrev pub IsSwept : List (ℕ × ℕ) → List ℕ → List ℕ → Sweep → Type 0
IsSwept arcs old new Settled = (new ≡ old) × RisesAlong arcs (slice_index old)
IsSwept arcs old new Raised = IsRaised arcs old new
IsSwept arcs old new Ring = (ranking : ℕ → ℕ) → RisesAlong arcs ranking → IsLowUnder ranking old → ⊥

-- one of the pairs, by places
abbrev pub IsPairOf : List (ℕ × ℕ) → ℕ × ℕ → Type 0
IsPairOf arcs pair = (m : ℕ) × (m < length arcs) × (pair.0 ≡ from_at arcs m) × (pair.1 ≡ to_at arcs m)

-- the pairs, by places
pub record ArePairsOf (arcs pairs : List (ℕ × ℕ)) : Type 0 where
  pub only : (q : ℕ) → q < length pairs → IsPairOf arcs (slice_index_or pairs q (0, 0))
  pub all : (m : ℕ) → m < length arcs → Contains pairs (from_at arcs m, to_at arcs m)

-- the pairs by places, by rising rank of the first
pub record AreByRank (arcs : List (ℕ × ℕ)) (rank : List ℕ) (pairs : List (ℕ × ℕ)) : Type 0 where
  pub same : ArePairsOf arcs pairs
  pub sorted : (a b : ℕ) → a ≤ b → b < length pairs → slice_index rank (slice_index_or pairs a (0, 0)).0 ≤
      slice_index rank (slice_index_or pairs b (0, 0)).0

-- the pairs by places, in an order in which every pair into a job comes before every pair out of it
pub record AreInOrder (arcs pairs : List (ℕ × ℕ)) : Type 0 where
  pub same : ArePairsOf arcs pairs
  pub forward : (a b : ℕ) → a ≤ b → b < length pairs → (slice_index_or pairs a (0, 0)).0 ≢
      (slice_index_or pairs b (0, 0)).1

-- what putting the pairs in order answers
abbrev pub IsOrdered : List (ℕ × ℕ) → Result (Vec (ℕ × ℕ) Global) NetFault → Type 0
IsOrdered arcs (Ok pairs) = IsRankable arcs × AreInOrder arcs pairs.items
IsOrdered arcs (Err Cycle) = IsRankable arcs → ⊥
IsOrdered arcs (Err Memory) = IsRankable arcs
IsOrdered arcs (Err Limit) = ⊥
IsOrdered arcs (Err BadJob) = ⊥

-- the same pairs, each once and in rising order
pub record IsSortedSet (given sorted : List (ℕ × ℕ)) : Type 0 where
  pub rising : AllPairs IsArcBefore sorted
  pub same : (arc : ℕ × ℕ) → Contains sorted arc ↔ Contains given arc
