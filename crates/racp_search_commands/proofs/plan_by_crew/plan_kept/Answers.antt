use Rattle.std.proofs.Common.{subst, sym}
use Rattle.std.proofs.lemmas.Result.{IfOk-weaker}
use Rattle.racp_search_commands.specs.Statuses.{IsStatusOfSearch}
use Rattle.racp_search_commands.proofs.plan_by_crew.plan_kept.Goals as goal

pub returns : goal.returns
returns g c = IfOk-weaker c.with_text.result _ _ (λ done same. subst IsStatusOfSearch (sym same) c.in_ok-made.ensures) c.with_text.ensures
