use Rattle.std.proofs.Common.{◌≡◌, List, ℕ, Option}
use Rattle.racp_batch.specs.Rows.{MayBeOpen}
use Rattle.racp_batch.specs.Tables.{IsTold}
use Rattle.racp_batch.proofs.telling.write_done.Given as goal

abbrev pub invariant-loop-place : goal.invariant-loop-place
invariant-loop-place g l = record { at : l.told ≡ l.place; told : (base : Option (List ℕ)) → IsTold l.shared.batch.now.calendar (MayBeOpen g.T.OfCases.unlimited g.T.OfCases.quiet) g.T.OfCases.cases base (g.W.Write.contents l.initial.out) l.initial.told → IsTold l.shared.batch.now.calendar (MayBeOpen g.T.OfCases.unlimited g.T.OfCases.quiet) g.T.OfCases.cases base (g.W.Write.contents l.out) l.told }
