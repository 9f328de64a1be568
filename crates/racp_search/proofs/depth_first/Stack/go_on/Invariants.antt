use Rattle.std.proofs.Common.{◌<◌, ◌≤◌, ◌++◌, ◌∷◌, [], IfSome}
use Rattle.racp_cutset.specs.Kept.{StayKept, front}
use Rattle.racp_search.specs.DepthFirst.{IsSearchingNext, IsHigher, open_parts, weights}
use Rattle.racp_search.specs.DepthFirst.Part.{all_of}
use Rattle.racp_search.proofs.depth_first.Stack.go_on.Given as goal

abbrev pub invariant-next : goal.invariant-next
invariant-next g l = record {
  state : IsSearchingNext g.N.OfNetwork.network l.subject.capacities l.subject.window l.self.frames.items l.next.window l.next.from;
  higher : 0 < l.nodes → IsHigher g.N.OfNetwork.network l.subject.window l.next.window;
  bounded : IfSome l.limit.quantum (λ most. l.nodes ≤ most);
  kept : StayKept (front l.first l.fn.local) l.local;
}

abbrev pub decreases-next : goal.decreases-next
decreases-next g l = weights g.N.OfNetwork.network (open_parts l.self.frames.items ++ all_of l.next.window ∷ [])
