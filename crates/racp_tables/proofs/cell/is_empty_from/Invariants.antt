use Rattle.std.proofs.Common.{◌≡◌}
use Rattle.csv.specs.Records.{fields_of}
use Rattle.racp_tables.specs.Cells.{is_blank_from}
use Rattle.racp_tables.proofs.cell.is_empty_from.Given as goal

abbrev pub invariant-loop-place : goal.invariant-loop-place
invariant-loop-place l = is_blank_from l.place (fields_of l.record) ≡ is_blank_from l.fn.first (fields_of l.record)
