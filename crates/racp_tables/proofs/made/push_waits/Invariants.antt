use Rattle.std.proofs.Common.{◌≡◌, ◌++◌, drop, map}
use Rattle.racp_tables.specs.Rows.{waiting}
use Rattle.racp_tables.proofs.made.push_waits.Given as goal

abbrev pub invariant-loop-wait : goal.invariant-loop-wait
invariant-loop-wait l = l.jobs.items ++ map (waiting l.resources) (drop l.wait-index l.waits) ≡ l.initial.jobs.items ++ map (waiting l.resources) l.waits
