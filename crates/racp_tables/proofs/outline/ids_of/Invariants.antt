use Rattle.std.proofs.Common.{◌≡◌, ◌++◌, drop, map, string_bytes}
use Rattle.racp_tables.specs.Rows.{id_of}
use Rattle.racp_tables.proofs.outline.ids_of.Given as goal

abbrev pub invariant-loop-row : goal.invariant-loop-row
invariant-loop-row l = map string_bytes l.ids.items ++ map id_of (drop l.row-index l.rows) ≡ map id_of l.rows
