use Rattle.racp_search.specs.DepthFirst.{IsGoneOn, steps_left}
use Rattle.racp_search.proofs.frame.Frame.find_children.Given as goal

abbrev pub invariant-loop-self : goal.invariant-loop-self
invariant-loop-self g l = IsGoneOn g.N.OfNetwork.network l.subject.capacities l.fn.self l.self

abbrev pub decreases-loop-self : goal.decreases-loop-self
decreases-loop-self g l = steps_left l.self.more l.self.last
