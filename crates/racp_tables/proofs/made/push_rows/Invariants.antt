use Rattle.std.proofs.Common.{◌≡◌, ◌+◌, ◌++◌, drop, map}
use Rattle.racp_links.specs.Phases.{leaf_items, of_leaves}
use Rattle.racp_tables.specs.Rows.{job_of}
use Rattle.racp_tables.proofs.made.push_rows.Given as goal

abbrev pub invariant-loop-i : goal.invariant-loop-i
invariant-loop-i l = l.jobs.items ++ leaf_items l.parents (l.i + 1) (map job_of (drop l.i l.rows)) ≡ l.initial.jobs.items ++ of_leaves l.parents (map job_of l.rows)
