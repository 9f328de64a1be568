use Rattle.racp_search.proofs.Resting.{window-more}
use Rattle.racp_search.proofs.child.windows_of.Goals as goal

pub loop-child-preserved : goal.loop-child-preserved
loop-child-preserved c = window-more c.loop-child.yielded c.in-Some.child c.loop-child.windows.items c.push.new.self.items c.loop-child.invariant c.in_ok-push.ensures.items
