-- What a search by clauses needs to know of the first floors; and why there is no plan where no capacities are enough.
use Rattle.std.proofs.Common.{ℕ, ◌≤◌, List, Option, Some, None, arith}
use Rattle.racp_model.specs.Project.{Project}
use Rattle.racp_model.specs.Schedule.{roof}
use Rattle.racp_model.specs.Terms.{Terms, release_of, due_of}
use Rattle.racp_model.specs.Plan.{IsOverCeilings, NoneIsEnough}
use Rattle.racp_model.specs.Window.{Bounds, IsRootWindow}
use Rattle.racp_prices.specs.Units.{cut_to}
use Rattle.racp_clauses.specs.Roots.{AreNeeded}
use Rattle.racp_by_questions.specs.Stages.{AreFirstEnds}
use Rattle.racp_by_questions.specs.declared.bounds.Ends.{Ends}

-- what is cut to the ceilings is no greater than before
cut_less : (ceilings : Option (List ℕ)) (k x : ℕ) → cut_to ceilings k x ≤ x
cut_less None k x = omega arith
cut_less (Some most) k x = omega arith

-- the first floors are needed, where none is above its roof
pub floors_needed : (p : Project) (terms : Terms) (root : Bounds) (ends : Ends) → AreFirstEnds p terms root ends → AreNeeded p terms ends.floors
floors_needed p terms root ends first = record {
  places = first.lowest.places;
  roofs = λ k l. omega (arith, first.bounds k (omega (arith, l, first.lowest.places)), first.most.each k l, cut_less terms.ceilings k (roof p k));
  least = first.least.below;
}

-- where none are enough, the ceilings are the reason
pub over : (p : Project) (terms : Terms) (root : Bounds) → IsRootWindow p (release_of terms) (due_of terms) root → NoneIsEnough p terms → IsOverCeilings p terms
over p terms root h none = record { in_time = (root.lower, h.early, h.ends); none = none }
