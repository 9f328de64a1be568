use Rattle.std.proofs.Common.{◌≡◌, ◌+◌, ◌++◌, drop, map}
use Rattle.racp_links.specs.Phases.{leaf_items}
use Rattle.racp_tables.specs.Rows.{duration_of, durations_of}
use Rattle.racp_tables.proofs.made.durations_of.Given as goal

abbrev pub invariant-loop-i : goal.invariant-loop-i
invariant-loop-i l = l.durations.items ++ leaf_items l.parents (l.i + 1) (map duration_of (drop l.i l.rows)) ≡ durations_of l.parents l.rows
