use Rattle.std.proofs.Common.{◌≡◌, ◌++◌, drop}
use Rattle.racp_tables.specs.CellTies.{range_ties_from}
use Rattle.racp_tables.proofs.link_cells.push_range.Given as goal

abbrev pub invariant-loop-place : goal.invariant-loop-place
invariant-loop-place l = l.ties.items ++ range_ties_from l.place (drop l.place l.rows) l.range ≡ l.initial.ties.items ++ range_ties_from 0 l.rows l.range
