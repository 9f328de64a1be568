-- Laws of the soonest plan. Each is the contract of a public function.
use Rattle.std.specs.Prelude.{◌≡◌}
use Rattle.racp_model.specs.Project.{Project, IsSound}
use Rattle.racp_model.specs.Terms.{Terms}
use Rattle.racp_plan.specs.declared.plan.Plan.{Plan}
use Rattle.racp_soonest.specs.Soonest.{IsSoonest}

-- an order has one soonest plan at most
abbrev pub SoonestIsOne : Type 0
SoonestIsOne = (p : Project) (terms : Terms) (a b : Plan) → IsSound p → IsSoonest p terms a → IsSoonest p terms b → a ≡ b
