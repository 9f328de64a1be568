use Rattle.std.proofs.Common.{◌≡◌, length}
use Rattle.racp_candidates.specs.Vectors.{vectors_above, HavePlaces}
use Rattle.racp_candidates.proofs.pairs.next_above.Given as goal

abbrev pub invariant-loop-units : goal.invariant-loop-units
invariant-loop-units l = record {
  same : vectors_above l.floors l.pairs l.frontier ≡ vectors_above l.floors l.pairs l.fn.frontier;
  places : HavePlaces l.floors l.frontier;
}

abbrev pub decreases-loop-units : goal.decreases-loop-units
decreases-loop-units l = length l.frontier
