-- Contracts of private functions: deadlines that are tried, and the span that is left.
use Rattle.std.specs.Prelude.{◌≡◌, ℕ, ◌+◌, ◌-◌, ◌<◌, ◌≤◌, Option, Some, None, ⊤}
use Rattle.racp_model.specs.Project.{Project}
use Rattle.racp_model.specs.Terms.{Terms}
use Rattle.racp_model.specs.Plan.{NoneIsEnough}
use Rattle.racp_clauses.specs.Roots.{IsOpen}
use Rattle.racp_clauses.specs.Solutions.{Problem}
use Rattle.racp_lexfix.specs.Variants.{IsVariantOf}
use Rattle.racp_curve.specs.Curves.{order_by}
use Rattle.racp_soonest.specs.Soonest.{IsKnown}
use Rattle.racp_soonest.specs.declared.learning.Start.{Start}
use Rattle.racp_soonest.specs.declared.soonest.Span.{Span}
use Rattle.racp_soonest.specs.declared.trying.Trial.{Trial}
use Rattle.racp_soonest.specs.declared.trying.Trial.TheVariants.{Fits, NoneFits}

-- what is learned of a problem serves an order of its network with the same prices and owned units
pub record IsLearnedOf (q : Problem) (p : Project) (terms : Terms) : Type 0 where
  pub network : p ≡ q.network
  pub variant : IsVariantOf q.terms terms

-- where searches begin: root bounds that leave nothing out
abbrev pub IsStart : Project → Terms → Start → Type 0
IsStart p terms start = IsOpen (record { network = p; terms = terms; root = start.bounds })

-- what is found of an order: a deadline, at most its own, for which some capacities are enough; or that none are
abbrev pub IsFoundOf : Project → Terms → Trial → Type 0
IsFoundOf p terms (Fits end) = IsKnown p terms end
IsFoundOf p terms NoneFits = NoneIsEnough p terms

-- what is found of an order with another deadline
abbrev pub IsTried : Project → Terms → (deadline : ℕ) → Trial → Type 0
IsTried p terms deadline (Fits end) = (end ≤ deadline) × IsKnown p terms end
IsTried p terms deadline NoneFits = NoneIsEnough p (order_by deadline terms)

-- a deadline lies before the one that is known, if one is
abbrev pub IsBeforeKnown : Option ℕ → ℕ → Type 0
IsBeforeKnown None deadline = ⊤
IsBeforeKnown (Some known) deadline = deadline < known

-- nothing is left to be tried: no deadline up to the last one; or none before the one that is known
abbrev pub IsClosedAt : Option ℕ → (least last : ℕ) → Type 0
IsClosedAt None least last = last < least
IsClosedAt (Some known) least last = known ≤ least

abbrev pub IsClosed : Span → (last : ℕ) → Type 0
IsClosed span last = IsClosedAt span.known span.least last

-- how many deadlines are left, with one more until one is known
abbrev pub room_at : Option ℕ → (least last : ℕ) → ℕ
room_at None least last = last + 2 - least
room_at (Some known) least last = known - least

abbrev pub room : Span → (last : ℕ) → ℕ
room span last = room_at span.known span.least last
