use Rattle.std.proofs.Common.{◌≡◌}
use Rattle.csv.specs.Records.{fields_of}
use Rattle.racp_export.specs.Tables.{titles_before}
use Rattle.racp_export.proofs.table.title_record.Given as goal

abbrev pub invariant-loop-k : goal.invariant-loop-k
invariant-loop-k l = fields_of l.fields ≡ titles_before l.net l.names l.k
