use Rattle.std.proofs.Common.{drop, map, string_bytes}
use Rattle.csv.specs.Records.{fields_of}
use Rattle.racp_tables.specs.Records.{with_text}
use Rattle.racp_tables.proofs.RowsRead.{IsReadingRows}
use Rattle.racp_tables.proofs.csv_rows.rows_of.Given as goal

abbrev pub invariant-loop-record : goal.invariant-loop-record
invariant-loop-record l =
    IsReadingRows l.taken.columns.now (map string_bytes l.taken.roster.now) l.taken.parents.now l.taken.scale l.taken.dating (with_text (map fields_of l.records))
    (with_text (map fields_of (drop l.record-index l.records))) l.rows.items
