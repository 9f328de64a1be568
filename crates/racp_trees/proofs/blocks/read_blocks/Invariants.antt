use Rattle.std.proofs.Common.{length}
use Rattle.racp_trees.proofs.Vectors.{IsReadingBlocks}
use Rattle.racp_trees.proofs.blocks.read_blocks.Given as goal

abbrev pub invariant-loop-vectors : goal.invariant-loop-vectors
invariant-loop-vectors g l = IsReadingBlocks l.net l.root l.fn.reader l.fn.text l.reader l.vectors.items l.rest

abbrev pub decreases-loop-vectors : goal.decreases-loop-vectors
decreases-loop-vectors g l = length l.rest
