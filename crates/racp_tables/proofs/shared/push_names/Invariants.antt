use Rattle.std.proofs.Common.{◌≡◌, drop, map, string_bytes}
use Rattle.racp_tables.specs.Joined.{with_names}
use Rattle.racp_tables.proofs.shared.push_names.Given as goal

abbrev pub invariant-loop-i : goal.invariant-loop-i
invariant-loop-i l = with_names (map string_bytes l.names.items) (map string_bytes (drop l.i l.more)) ≡ with_names (map string_bytes l.initial.names.items) (map string_bytes l.more)
