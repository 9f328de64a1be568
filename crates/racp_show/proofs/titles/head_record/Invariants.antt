use Rattle.std.proofs.Common.{◌≡◌, ◌++◌, drop, map}
use Rattle.csv.specs.Records.{fields_of}
use Rattle.racp_show.specs.Tables.{fixed_titles, title_of}
use Rattle.racp_show.proofs.titles.head_record.Given as goal

abbrev pub invariant-loop-entry : goal.invariant-loop-entry
invariant-loop-entry l = fields_of l.fields ++ map title_of (drop l.entry-index l.resources) ≡ fixed_titles l.has_dates ++ map title_of l.resources
