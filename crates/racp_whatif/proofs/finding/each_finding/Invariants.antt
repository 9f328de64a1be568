use Rattle.racp_by_questions.specs.Crowds.{MayStop}
use Rattle.racp_whatif.proofs.Gathering.{IsListing}
use Rattle.racp_whatif.proofs.finding.each_finding.Given as goal

abbrev pub invariant-loop-change : goal.invariant-loop-change
invariant-loop-change g l = IsListing (MayStop g.N.OfOrder.network g.M.OfTurns.quiet g.M.OfTurns.turns) g.N.OfOrder.network g.N.OfOrder.terms l.changes l.change-index l.findings.items
