use Rattle.std.proofs.Common.{◌≡◌, All, map, take}
use Rattle.racp_show.specs.Entries.{line_of}
use Rattle.racp_show.specs.Rows.{IsRow, shown}
use Rattle.racp_show.proofs.row.rows_of.Given as goal

abbrev pub invariant-loop-entry : goal.invariant-loop-entry
invariant-loop-entry l = (map shown l.rows.items ≡ map line_of (take l.entry-index l.entries)) × All (IsRow l.net l.plan.starts l.room l.names l.tasks) l.rows.items
