use Rattle.std.proofs.Common.{◌-◌, slice_index}
use Rattle.racp_model.specs.Project.{place, request}
use Rattle.racp_delay.proofs.Rows.{AreWritten}
use Rattle.racp_delay.proofs.loads.without.Given as goal

abbrev pub invariant-loop-k : goal.invariant-loop-k
invariant-loop-k l = AreWritten l.k (λ q. slice_index l.loads q - request l.net (place l.job) q) l.loads l.sums
