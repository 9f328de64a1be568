use Rattle.std.proofs.Common.{◌≡◌, ◌++◌, drop}
use Rattle.racp_whatif.specs.Changes.{each_fewer}
use Rattle.racp_whatif.proofs.changes.push_fewer.Given as goal

abbrev pub invariant-loop-place : goal.invariant-loop-place
invariant-loop-place l = l.changes.items ++ each_fewer l.place (drop l.place l.capacities) ≡ l.initial.changes.items ++ each_fewer 0 l.capacities
