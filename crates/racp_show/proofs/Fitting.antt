-- What a plan that fits an order is known to keep.
use Rattle.std.proofs.Common.{◌≡◌, ℕ, List, arith}
use Rattle.racp_model.specs.Project.{Project}
use Rattle.racp_model.specs.Schedule.{EndsBy}
use Rattle.racp_model.specs.Terms.{Terms}
use Rattle.racp_model.specs.Plan.{FitsTerms}

-- each job ends by the deadline
pub fitting_ends : (p : Project) (terms : Terms) (capacities starts : List ℕ) (deadline : ℕ) → deadline ≡ terms.deadline → FitsTerms p terms capacities starts → EndsBy p (λ _. deadline) starts
fitting_ends p terms capacities starts deadline is fits i job = omega (arith, is, fits.in_time.ends i job)
