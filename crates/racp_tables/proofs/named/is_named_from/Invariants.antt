use Rattle.std.proofs.Common.{◌≡◌, drop}
use Rattle.std.specs.List.{list_any}
use Rattle.racp_tables.specs.Called.{has_name}
use Rattle.racp_tables.proofs.named.is_named_from.Given as goal

abbrev pub invariant-loop-place : goal.invariant-loop-place
invariant-loop-place l = list_any (has_name l.word) (drop l.place l.rows) ≡ list_any (has_name l.word) (drop l.fn.first l.rows)
