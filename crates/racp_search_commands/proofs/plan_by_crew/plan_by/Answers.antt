use Rattle.std.proofs.Common.{ℕ, Option, IfOk, subst}
use Rattle.std.specs.Prelude.{Result}
use Rattle.racp_by_questions.specs.declared.crowd.Effort.{Effort}
use Rattle.racp_streams.specs.declared.fault.StreamFault.{StreamFault}
use Rattle.racp_search_commands.specs.Statuses.{IsStatusOfSearch}
use Rattle.racp_search_commands.proofs.Statuses.{planned_by}
use Rattle.racp_search_commands.proofs.plan_by_crew.plan_by.Goals as goal

pub returns : goal.returns
returns g c = subst (λ (made : Result (ℕ × Option Effort) StreamFault). IfOk made (λ done. IsStatusOfSearch done.0)) c.in_ok-status.was
    (planned_by _ _ _ _ _ _ c.crowd_over_by-made.result c.crowd_over_by-made.ensures.run)
