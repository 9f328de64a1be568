use Rattle.std.proofs.Common.{◌≡◌, ◌++◌, flat_map, string_bytes, drop}
use Rattle.racp_export.specs.Tables.{markdown_row}
use Rattle.racp_export.proofs.markdown.push_rows.Given as goal

abbrev pub invariant-loop-row : goal.invariant-loop-row
invariant-loop-row l = string_bytes l.text ++ flat_map (markdown_row l.ground.calendar l.ground.net.now l.ground.names.now) (drop l.row-index l.rows) ≡ string_bytes l.initial.text ++ flat_map (markdown_row l.ground.calendar l.ground.net.now l.ground.names.now) l.rows
