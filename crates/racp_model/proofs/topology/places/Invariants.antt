use Rattle.racp_model.proofs.Topological.{ArePairsBelow}
use Rattle.racp_model.proofs.topology.places.Given as goal

abbrev pub invariant-loop-i : goal.invariant-loop-i
invariant-loop-i l = ArePairsBelow l.arcs l.i-index l.pairs.items
