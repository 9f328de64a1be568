use Rattle.std.proofs.Common.{◌≡◌, ℕ, ◌<◌, false, get_or}
use Rattle.racp_tables.specs.Called.{has_name}
use Rattle.racp_tables.specs.declared.row.Row.{Row}
use Rattle.racp_tables.proofs.named.place_of_name.Given as goal

abbrev pub invariant-loop-place : goal.invariant-loop-place
invariant-loop-place l = (k : ℕ) (d : Row) → k < l.place → has_name l.word (get_or l.rows k d) ≡ false
