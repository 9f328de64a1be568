use Rattle.std.proofs.Common.{◌≡◌, ◌++◌, List, length}
use Rattle.racp_trees.specs.declared.parts.Part.{Part}
use Rattle.racp_trees.specs.Enough.{AreParts}
use Rattle.racp_trees.proofs.parts.push_parts.Given as goal

abbrev pub invariant-loop-k : goal.invariant-loop-k
invariant-loop-k l = (found : List Part) × (l.parts.items ≡ l.fn.parts.items ++ found) × AreParts (length l.low) l.low l.high l.block l.k found
