use Rattle.std.proofs.Common.{◌≡◌, length}
use Rattle.racp_model.specs.Project.{place}
use Rattle.racp_delay.proofs.Reaching.{AreJoined}
use Rattle.racp_delay.proofs.reach.with_requests.Given as goal

abbrev pub invariant-loop-k : goal.invariant-loop-k
invariant-loop-k l = record {
  joined : AreJoined l.net (place l.job) l.k l.row l.divisors;
  places : length l.divisors ≡ 16;
}
