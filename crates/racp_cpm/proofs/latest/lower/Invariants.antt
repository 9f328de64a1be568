use Rattle.racp_cpm.proofs.Lowering.{IsLoweredFrom}
use Rattle.racp_cpm.proofs.latest.lower.Given as goal

abbrev pub invariant-loop-k : goal.invariant-loop-k
invariant-loop-k l = IsLoweredFrom l.net l.arcs l.k l.fn.starts l.starts
