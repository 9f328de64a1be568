use Rattle.std.proofs.Common.{None}
use Rattle.racp_search_commands.proofs.Statuses.{ended_as, proved_by_clauses}
use Rattle.racp_search_commands.proofs.prove.prove_by_clauses.Goals as goal

pub returns : goal.returns
returns g c = ended_as _ _ _ _ c.prove_by_clauses_over-status.result c.ended.result c.ended.ensures.ok
    (proved_by_clauses _ _ None None c.prove_by_clauses_over-status.result c.prove_by_clauses_over-status.ensures)
