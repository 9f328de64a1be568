use Rattle.std.proofs.Common.{◌≡◌, ◌++◌, flat_map, string_bytes, drop}
use Rattle.racp_report.specs.Pages.{table_row}
use Rattle.racp_report.proofs.task_table.push_rows.Given as goal

abbrev pub invariant-loop-row : goal.invariant-loop-row
invariant-loop-row l = string_bytes l.text ++ flat_map (table_row l.calendar) (drop l.row-index l.rows) ≡ string_bytes l.initial.text ++ flat_map (table_row l.calendar) l.rows
