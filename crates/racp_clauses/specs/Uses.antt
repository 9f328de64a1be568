-- What facts say of an order, if the root bounds leave nothing out.
use Rattle.std.specs.Prelude.{◌≡◌, ℕ, ◌+◌, ◌<◌, ◌≤◌, List, length, slice_index}
use Rattle.racp_model.specs.Project.{Project}
use Rattle.racp_model.specs.Schedule.{sum_below, use_of}
use Rattle.racp_model.specs.Terms.{Terms, release_of, due_of, cost, IsWithinCeilings}
use Rattle.racp_model.specs.Plan.{IsEnough, FitsTerms}
use Rattle.racp_model.specs.Window.{Bounds, IsRootWindow, LiesIn}
use Rattle.racp_model.specs.Laws.{IsCutToRoofs}
use Rattle.racp_clauses.specs.Solutions.{Problem, HasPlaces, values, units_place, cost_place}
use Rattle.racp_clauses.specs.Clauses.{SatisfiesSome, Holds, IsRefuted}
use Rattle.racp_clauses.specs.Rules.{least_work}
use Rattle.racp_clauses.specs.Roots.{IsOpen, IsRootOf, IsPartOf, IsTighter}
use Rattle.racp_clauses.specs.declared.literal.Literal.{Literal}

-- no capacities that are enough cost less
abbrev pub IsLeastCost : Problem → ℕ → Type 0
IsLeastCost q least = (capacities : List ℕ) → IsEnough q.network q.terms capacities → least ≤ cost q.terms capacities

-- units, and what they cost, are within bounds of these
pub record AreUnitsWithin (q : Problem) (bounds : Bounds) (units : List ℕ) : Type 0 where
  pub above : (k : ℕ) → k < q.network.resources →
      slice_index bounds.lower (units_place q.network k) ≤ slice_index units k
  pub below : (k : ℕ) → k < q.network.resources →
      slice_index units k ≤ slice_index bounds.upper (units_place q.network k)
  pub cost_above : slice_index bounds.lower (cost_place q.network) ≤ cost q.terms units
  pub cost_below : cost q.terms units ≤ slice_index bounds.upper (cost_place q.network)

-- bounds in which each start vector of the root lies
pub record LeaveStarts (q : Problem) (bounds : Bounds) : Type 0 where
  pub places : HasPlaces q.network bounds
  pub lower : (i : ℕ) → i < length q.network.jobs → slice_index bounds.lower i ≤ slice_index q.root.lower i
  pub upper : (i : ℕ) → i < length q.network.jobs → slice_index q.root.upper i ≤ slice_index bounds.upper i

-- if no solution lies within bounds that leave the starts open, no units within them are enough
abbrev pub RefutedAreNotEnough : Type 0
RefutedAreNotEnough =
    (q : Problem) (bounds : Bounds) (whole units : List ℕ) → IsOpen q → LeaveStarts q bounds → IsRefuted q bounds →
    length units ≡ q.network.resources → IsCutToRoofs q.network whole units → AreUnitsWithin q bounds units →
    IsEnough q.network q.terms whole → ⊥

-- starts that fit some capacities within the ceilings in time satisfy some literal of each clause that holds, with the
-- units cut to the roofs
abbrev pub HoldsOfFitting : Type 0
HoldsOfFitting =
    (q : Problem) (clause : List Literal) (whole units starts : List ℕ) → IsOpen q → Holds q clause →
    length whole ≡ q.network.resources → IsWithinCeilings q.terms whole → FitsTerms q.network q.terms whole starts →
    length units ≡ q.network.resources → IsCutToRoofs q.network whole units →
    SatisfiesSome clause (values q.terms starts units)

-- a clause of a problem holds of each part of it
abbrev pub HoldsOfParts : Type 0
HoldsOfParts = (part whole : Problem) (clause : List Literal) → IsPartOf part whole → Holds whole clause → Holds part clause

-- under tighter terms an order is part of what it was: so clauses of a longer deadline, or of higher ceilings, go on
-- holding for a shorter one, or lower ones
abbrev pub TighterIsPart : Type 0
TighterIsPart =
    (p : Project) (tight wide : Terms) (tight_window wide_window : Bounds) (tight_floors wide_floors : List ℕ)
    (tight_root wide_root : Bounds) → IsTighter tight wide →
    IsRootWindow p (release_of tight) (due_of tight) tight_window →
    IsRootWindow p (release_of wide) (due_of wide) wide_window →
    length wide_floors ≡ p.resources → length tight_floors ≡ p.resources → length wide.prices ≡ p.resources →
    ((k : ℕ) → k < p.resources → slice_index wide_floors k ≤ slice_index tight_floors k) →
    IsRootOf p tight tight_window tight_floors tight_root → IsRootOf p wide wide_window wide_floors wide_root →
    IsPartOf (record { network = p; terms = tight; root = tight_root })
    (record { network = p; terms = wide; root = wide_root })

-- wherever the jobs start in a window, a job does its least work on a resource between two times
abbrev pub LeastWorkIsDone : Type 0
LeastWorkIsDone =
    (p : Project) (window : Bounds) (starts : List ℕ) (k from span i : ℕ) → LiesIn p window starts → i < length p.jobs →
    least_work p window k from (from + span) i ≤ sum_below span (λ u. use_of p starts k (from + u) i)
