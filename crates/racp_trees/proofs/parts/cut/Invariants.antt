use Rattle.racp_trees.specs.Enough.{IsCutBefore}
use Rattle.racp_trees.proofs.parts.cut.Given as goal

abbrev pub invariant-loop-q : goal.invariant-loop-q
invariant-loop-q l = IsCutBefore l.fn.numbers l.most l.q l.numbers
