use Rattle.racp_model.proofs.Raising.{IsSweeping}
use Rattle.racp_model.proofs.topology.raise_ranks.Given as goal

abbrev pub invariant-loop-i : goal.invariant-loop-i
invariant-loop-i l = IsSweeping l.arcs l.fn.rank l.i-index l.raised l.rank
