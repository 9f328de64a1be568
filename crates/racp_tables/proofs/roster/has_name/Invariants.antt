use Rattle.std.proofs.Common.{◌≡◌, bytes_eq, drop, map, string_bytes}
use Rattle.std.specs.List.{list_any}
use Rattle.racp_tables.proofs.roster.has_name.Given as goal

abbrev pub invariant-loop-known : goal.invariant-loop-known
invariant-loop-known l =
    list_any (λ known. bytes_eq known l.name) (map string_bytes (drop l.known-index l.roster)) ≡ list_any (λ known. bytes_eq known l.name) (map string_bytes l.roster)
