use Rattle.std.specs.BinaryHeap.{heap_items}
use Rattle.racp_candidates.specs.Vectors.{terms_of}
use Rattle.racp_candidates.specs.Frontier.{vectors_in, ArePriced}
use Rattle.racp_candidates.proofs.Collecting.{IsCollecting}
use Rattle.racp_candidates.proofs.children.children_of.Given as goal

abbrev pub invariant-loop-place : goal.invariant-loop-place
invariant-loop-place l = record {
  collecting : IsCollecting l.floors l.roofs l.units l.place (vectors_in (heap_items l.children));
  priced : ArePriced (terms_of l.prices l.owned) (heap_items l.children);
}
