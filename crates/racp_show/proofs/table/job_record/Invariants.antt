use Rattle.std.proofs.Common.{◌≡◌, ◌++◌, drop, map, decimal}
use Rattle.csv.specs.Records.{fields_of}
use Rattle.racp_show.specs.Tables.{fixed_fields}
use Rattle.racp_show.proofs.table.job_record.Given as goal

abbrev pub invariant-loop-number : goal.invariant-loop-number
invariant-loop-number l = fields_of l.fields ++ map decimal (drop l.number-index l.entry.requests.items) ≡ fixed_fields l.has_dates l.entry ++ map decimal l.entry.requests.items
