use Rattle.std.proofs.Common.{◌≡◌}
use Rattle.csv.specs.Records.{fields_of}
use Rattle.racp_export.specs.Tables.{phase_before}
use Rattle.racp_export.proofs.table.phase_record.Given as goal

abbrev pub invariant-loop-k : goal.invariant-loop-k
invariant-loop-k l = fields_of l.fields ≡ phase_before l.depth l.title l._k
