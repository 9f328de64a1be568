use Rattle.std.proofs.Common.{vec_len}
use Rattle.racp_search.proofs.Leaving.{IsLeaving}
use Rattle.racp_search.proofs.depth_first.Stack.gather.Given as goal

abbrev pub invariant-loop-self : goal.invariant-loop-self
invariant-loop-self g l = IsLeaving g.N.OfNetwork.network l.subject.capacities l.subject.window l.next.window l.self.frames.items l.rest.items

abbrev pub decreases-loop-self : goal.decreases-loop-self
decreases-loop-self g l = vec_len l.self.frames
