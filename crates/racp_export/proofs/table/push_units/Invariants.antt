use Rattle.std.proofs.Common.{◌≡◌}
use Rattle.csv.specs.Records.{fields_of}
use Rattle.racp_export.specs.Tables.{units_behind}
use Rattle.racp_export.proofs.table.push_units.Given as goal

abbrev pub invariant-loop-k : goal.invariant-loop-k
invariant-loop-k l = fields_of l.fields ≡ units_behind (fields_of l.initial.fields) l.net l.i l.k
