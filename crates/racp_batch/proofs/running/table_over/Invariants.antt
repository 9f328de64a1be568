use Rattle.std.proofs.Common.{is_none}
use Rattle.racp_batch.proofs.running.table_over.Given as goal

abbrev pub ghosts-table_of : goal.ghosts-table_of
ghosts-table_of g a = record { cases = a.batch.now.cases.now; unlimited = is_none a.planner.now.limit; quiet = g.H.Host.is_quiet a.host.now }
