use Rattle.std.proofs.Common.{ℕ, ◌<◌, length, slice_index_or, Vec}
use Rattle.std.specs.Global.{Global}
use Rattle.racp_trees.specs.Enough.{IsAtMost}
use Rattle.racp_trees.proofs.splitting.best_above.Given as goal

abbrev pub invariant-loop-k : goal.invariant-loop-k
invariant-loop-k l =
    (l.best < length l.blocks) × ((d : Vec ℕ Global) → IsAtMost (length l.part.low.items) l.part.low.items (slice_index_or l.blocks l.best d).items)
