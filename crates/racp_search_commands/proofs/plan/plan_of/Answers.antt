use Rattle.std.proofs.Common.{subst, sym}
use Rattle.racp_search_commands.specs.Statuses.{IsStatusOfSearch}
use Rattle.racp_search_commands.proofs.plan.plan_of.Goals as goal

pub returns-in_ok-status-in-None : goal.returns-in_ok-status-in-None
returns-in_ok-status-in-None g c = subst IsStatusOfSearch (sym c.written.ensures) c.in_ok-status-in-None.ensures
