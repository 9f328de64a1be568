use Rattle.std.proofs.Common.{◌≡◌, ◌++◌, flat_map, drop}
use Rattle.racp_export.specs.Tables.{csv_row}
use Rattle.racp_export.proofs.table.push_rows.Given as goal

abbrev pub invariant-loop-row : goal.invariant-loop-row
invariant-loop-row l = l.text.items ++ flat_map (csv_row l.ground.calendar l.ground.net.now) (drop l.row-index l.rows) ≡ l.initial.text.items ++ flat_map (csv_row l.ground.calendar l.ground.net.now) l.rows
