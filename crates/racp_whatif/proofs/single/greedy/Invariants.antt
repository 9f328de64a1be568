use Rattle.racp_whatif.specs.Fitting.{RequestsFit}
use Rattle.racp_whatif.proofs.single.greedy.Given as goal

abbrev pub invariant-loop-i : goal.invariant-loop-i
invariant-loop-i l = RequestsFit l.net l.k l.units l.i
