use Rattle.std.proofs.Common.{◌≡◌, ◌++◌, drop, map, string_bytes}
use Rattle.std.specs.List.{flat_map}
use Rattle.racp_tables.specs.Names.{name_line}
use Rattle.racp_tables.proofs.names.push_names.Given as goal

abbrev pub invariant-loop-i : goal.invariant-loop-i
invariant-loop-i l = string_bytes l.text ++ flat_map name_line (map string_bytes (drop l.i l.names)) ≡ string_bytes l.initial.text ++ flat_map name_line (map string_bytes l.names)
