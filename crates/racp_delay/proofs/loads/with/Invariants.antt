use Rattle.std.proofs.Common.{◌≡◌, ◌+◌, length, slice_index}
use Rattle.racp_model.specs.Project.{place, request}
use Rattle.racp_delay.proofs.Rows.{AreWritten}
use Rattle.racp_delay.proofs.loads.with.Given as goal

abbrev pub invariant-loop-k : goal.invariant-loop-k
invariant-loop-k l = record {
  written : AreWritten l.k (λ q. slice_index l.loads q + request l.net (place l.job) q) l.loads l.sums;
  places : length l.sums ≡ 16;
}
