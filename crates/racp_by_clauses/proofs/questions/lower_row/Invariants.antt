use Rattle.std.proofs.Common.{◌≡◌, ◌≤◌, length}
use Rattle.std.specs.Prelude.{All}
use Rattle.racp_clauses.specs.Solutions.{most_value}
use Rattle.racp_by_clauses.proofs.questions.lower_row.Given as goal

abbrev pub invariant-loop-x : goal.invariant-loop-x
invariant-loop-x l = (length l.row.items ≡ l.x) × All (λ v. v ≤ most_value) l.row.items
