use Rattle.std.proofs.Common.{◌≡◌, ◌++◌, drop, codes}
use Rattle.racp_trees.specs.Texts.{numbers_text}
use Rattle.racp_trees.proofs.writer.push_vector.Given as goal

abbrev pub invariant-loop-place : goal.invariant-loop-place
invariant-loop-place l = l.text.items ++ numbers_text (drop l.place l.vector) ≡ (l.fn.text.items ++ codes "vector") ++ numbers_text l.vector
