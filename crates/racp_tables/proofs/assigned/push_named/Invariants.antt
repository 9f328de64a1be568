use Rattle.std.proofs.Common.{◌≡◌, ◌++◌, drop, map, string_bytes}
use Rattle.racp_tables.specs.Assigned.{told, units_named}
use Rattle.racp_tables.proofs.assigned.push_named.Given as goal

abbrev pub invariant-loop-name : goal.invariant-loop-name
invariant-loop-name l =
    l.requests.items ++ map (units_named (map told l.assigned)) (map string_bytes (drop l.name-index l.roster))
    ≡ l.initial.requests.items ++ map (units_named (map told l.assigned)) (map string_bytes l.roster)
