-- What planning tells that ended early.
use Rattle.std.proofs.Common.{inl, inr, ℕ, ◌≤◌, List}
use Rattle.std.proofs.lemmas.Bool.{cases_lt}
use Rattle.racp_model.specs.Project.{Project}
use Rattle.racp_model.specs.Plan.{IsEnough}
use Rattle.racp_model.specs.Terms.{Terms, cost}
use Rattle.racp_model.proofs.lemmas.Costs.{cheaper-before}
use Rattle.racp_by_questions.specs.Stops.{IsNotAfterEnough}

-- capacities that are enough cost no less than some before which none are enough
pub least_cost : (p : Project) (terms : Terms) (not_before : List ℕ) → IsNotAfterEnough p terms not_before → (enough : List ℕ) → IsEnough p terms enough → cost terms not_before ≤ cost terms enough
least_cost p terms not_before h enough is = elim (cases_lt (cost terms enough) (cost terms not_before)) [
  | inl less ↦ absurd (h.none enough is (cheaper-before terms enough not_before less))
  | inr no_less ↦ no_less
]
