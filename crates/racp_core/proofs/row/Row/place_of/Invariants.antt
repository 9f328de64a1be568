use Rattle.std.proofs.Common.{◌≡◌, ℕ, ◌<◌, slice_index_or}
use Rattle.racp_core.specs.Steps.{out_of}
use Rattle.racp_core.specs.Rows.{no_out}
use Rattle.racp_core.proofs.row.Row.place_of.Given as goal

abbrev pub invariant-loop-at : goal.invariant-loop-at
invariant-loop-at g l = (q : ℕ) → q < l.at → slice_index_or l.self.out q no_out ≡ out_of l.piece → ⊥
