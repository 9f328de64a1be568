use Rattle.std.proofs.Common.{◌≤◌, [], vec_len}
use Rattle.racp_cutset.specs.Kept.{StayKept, front}
use Rattle.racp_search.specs.DepthFirst.{IsSearching, open_parts, weights}
use Rattle.racp_search.proofs.depth_first.Stack.next_window.Given as goal

abbrev pub invariant-loop-frame : goal.invariant-loop-frame
invariant-loop-frame g l = record {
  state : IsSearching g.N.OfNetwork.network l.subject.capacities l.subject.window l.self.frames.items [];
  lighter : weights g.N.OfNetwork.network (open_parts l.self.frames.items) ≤ weights g.N.OfNetwork.network (open_parts l.fn.self.frames.items);
  kept : StayKept (front l.count l.fn.local) l.local;
}

abbrev pub decreases-loop-frame : goal.decreases-loop-frame
decreases-loop-frame g l = vec_len l.self.frames
