use Rattle.std.proofs.Common.{◌≡◌, drop}
use Rattle.std.specs.List.{list_any}
use Rattle.racp_tables.specs.Called.{has_id}
use Rattle.racp_tables.proofs.named.is_id.Given as goal

abbrev pub invariant-loop-row : goal.invariant-loop-row
invariant-loop-row l = list_any (has_id l.word) (drop l.row-index l.rows) ≡ list_any (has_id l.word) l.rows
