use Rattle.std.proofs.Common.{◌≡◌, ◌++◌, drop, map, string_bytes}
use Rattle.racp_tables.specs.Joined.{widened}
use Rattle.racp_tables.proofs.widened.push_widened.Given as goal

abbrev pub invariant-loop-i : goal.invariant-loop-i
invariant-loop-i l = l.jobs.items ++ map (widened (map string_bytes l.own) (map string_bytes l.all)) (drop l.i l.more) ≡ l.initial.jobs.items ++ map (widened (map string_bytes l.own) (map string_bytes l.all)) l.more
