use Rattle.std.proofs.Common.{ℕ, ◌<◌, length, slice_index_or, Vec}
use Rattle.std.specs.Global.{Global}
use Rattle.racp_trees.specs.Enough.{IsAtMost}
use Rattle.racp_trees.proofs.before.first_above.Given as goal

abbrev pub invariant-loop-k : goal.invariant-loop-k
invariant-loop-k l = (q : ℕ) → q < l.k → (d : Vec ℕ Global) → IsAtMost (length l.vector) l.vector (slice_index_or l.blocks q d).items → ⊥
