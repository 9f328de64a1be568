use Rattle.std.proofs.Common.{◌≡◌, true}
use Rattle.racp_delay.specs.Alternatives.{job_lists}
use Rattle.racp_search.specs.DepthFirst.{IsGoneOn}
use Rattle.racp_search.proofs.Going.{IsTakingUp}
use Rattle.racp_search.proofs.frame.Frame.take_all.Given as goal

abbrev pub invariant-loop-list : goal.invariant-loop-list
invariant-loop-list g l = record {
  gone : IsGoneOn g.N.OfNetwork.network l.subject.capacities l.fn.self l.self;
  active : l.self.active ≡ l.fn.self.active;
  more : l.self.more ≡ true;
  taken : IsTakingUp (job_lists l.all) l.list-index l.self.last;
}
