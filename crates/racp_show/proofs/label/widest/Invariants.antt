use Rattle.std.proofs.Common.{ℕ, ◌<◌, String, slice_index_or}
use Rattle.std.specs.Global.{Global}
use Rattle.racp_show.specs.Labels.{IsWithinColumns}
use Rattle.racp_show.proofs.label.widest.Given as goal

abbrev pub invariant-loop-label : goal.invariant-loop-label
invariant-loop-label l = (k : ℕ) (d : String Global) → k < l.label-index → IsWithinColumns l.most (slice_index_or l.labels k d)
