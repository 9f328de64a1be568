use Rattle.std.proofs.Common.{◌≡◌, drop}
use Rattle.racp_trees.specs.Rows.{changed}
use Rattle.racp_trees.proofs.shared_row.make_changes.Given as goal

abbrev pub invariant-loop-k : goal.invariant-loop-k
invariant-loop-k l = changed l.bounds (drop l.k l.changes) ≡ changed l.fn.bounds l.changes
