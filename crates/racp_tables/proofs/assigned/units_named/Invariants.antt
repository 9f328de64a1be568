use Rattle.std.proofs.Common.{◌≡◌, map, take}
use Rattle.racp_tables.specs.Amounts.{capped}
use Rattle.racp_tables.specs.Assigned.{told, units_named}
use Rattle.racp_tables.proofs.assigned.units_named.Given as goal

abbrev pub invariant-loop-other : goal.invariant-loop-other
invariant-loop-other l = l.sum ≡ capped (units_named (take l.other-index (map told l.assigned)) l.name)
