use Rattle.std.proofs.Common.{◌≡◌, ◌++◌, drop}
use Rattle.std.specs.Prelude.{flat_map}
use Rattle.racp_show.specs.Tables.{job_row}
use Rattle.racp_show.proofs.table.push_rows.Given as goal

abbrev pub invariant-loop-entry : goal.invariant-loop-entry
invariant-loop-entry l = l.text.items ++ flat_map (job_row l.has_dates) (drop l.entry-index l.jobs) ≡ l.initial.text.items ++ flat_map (job_row l.has_dates) l.jobs
