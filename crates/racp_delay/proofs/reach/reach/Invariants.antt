use Rattle.std.proofs.Common.{◌≡◌, length}
use Rattle.racp_delay.proofs.Reaching.{AreReached}
use Rattle.racp_delay.proofs.reach.reach.Given as goal

abbrev pub invariant-loop-k : goal.invariant-loop-k
invariant-loop-k l = record {
  reached : AreReached l.choice l.k l.most;
  places : length l.most ≡ 16;
}
