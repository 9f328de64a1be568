use Rattle.std.proofs.Common.{vec_len}
use Rattle.racp_cutset.proofs.index.Index.take_free.Given as goal

abbrev pub decreases-loop-place : goal.decreases-loop-place
decreases-loop-place l = vec_len l.self.free
