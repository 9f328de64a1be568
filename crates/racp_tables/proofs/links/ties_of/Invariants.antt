use Rattle.std.proofs.Common.{◌≡◌, ◌++◌, drop, map}
use Rattle.racp_tables.specs.CellTies.{ties_read, ties_said}
use Rattle.racp_tables.proofs.links.ties_of.Given as goal

abbrev pub invariant-loop-place : goal.invariant-loop-place
invariant-loop-place l = map ties_read l.all.items ++ map (ties_said l.rows l.scale) (drop l.place l.rows) ≡ map (ties_said l.rows l.scale) l.rows
