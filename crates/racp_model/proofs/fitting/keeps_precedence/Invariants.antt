use Rattle.std.proofs.Common.{ℕ, ◌<◌, slice_index_or}
use Rattle.racp_model.proofs.lemmas.Arcs.{KeepsPair}
use Rattle.racp_model.proofs.fitting.keeps_precedence.Given as goal

abbrev pub invariant-loop-i : goal.invariant-loop-i
invariant-loop-i l = (q : ℕ) → q < l.i-index → KeepsPair l.net l.starts (slice_index_or l.i-items q (0, 0))
