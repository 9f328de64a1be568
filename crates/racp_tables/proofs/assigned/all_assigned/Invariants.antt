use Rattle.std.proofs.Common.{◌≡◌, ◌++◌, drop, map}
use Rattle.racp_tables.specs.Assigned.{mention_of, told, with_units}
use Rattle.racp_tables.proofs.assigned.all_assigned.Given as goal

abbrev pub invariant-loop-mention : goal.invariant-loop-mention
invariant-loop-mention l =
    map told l.all.items ++ map with_units (map mention_of (drop l.mention-index l.mentions)) ≡ map with_units (map mention_of l.mentions)
