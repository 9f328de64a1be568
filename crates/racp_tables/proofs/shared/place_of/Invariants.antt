use Rattle.std.proofs.Common.{◌≡◌, drop, map, string_bytes}
use Rattle.std.specs.Prelude.{bytes_eq}
use Rattle.std.specs.List.{position_from}
use Rattle.racp_tables.specs.Joined.{place_of}
use Rattle.racp_tables.proofs.shared.place_of.Given as goal

abbrev pub invariant-loop-i : goal.invariant-loop-i
invariant-loop-i l = position_from (λ known. bytes_eq known l.name) l.i (map string_bytes (drop l.i l.names)) ≡ place_of (map string_bytes l.names) l.name
