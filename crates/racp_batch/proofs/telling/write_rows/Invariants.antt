use Rattle.racp_batch.specs.Rows.{MayBeOpen}
use Rattle.racp_batch.specs.Tables.{IsTold}
use Rattle.racp_batch.proofs.telling.write_rows.Given as goal

abbrev pub invariant-loop-round : goal.invariant-loop-round
invariant-loop-round g l = IsTold l.shared.batch.now.calendar (MayBeOpen g.T.OfCases.unlimited g.T.OfCases.quiet) g.T.OfCases.cases (g.W.Write.contents l.initial.out) (g.W.Write.contents l.out) l.told
