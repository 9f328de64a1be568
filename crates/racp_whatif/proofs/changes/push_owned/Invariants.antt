use Rattle.std.proofs.Common.{◌≡◌, ◌++◌, drop}
use Rattle.racp_whatif.specs.Changes.{each_owned}
use Rattle.racp_whatif.proofs.changes.push_owned.Given as goal

abbrev pub invariant-loop-place : goal.invariant-loop-place
invariant-loop-place l = l.changes.items ++ each_owned l.place (drop l.place l.owned) ≡ l.initial.changes.items ++ each_owned 0 l.owned
