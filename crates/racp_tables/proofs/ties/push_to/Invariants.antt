use Rattle.std.proofs.Common.{◌≡◌, ◌++◌, drop, map}
use Rattle.racp_tables.specs.Rows.{link_to}
use Rattle.racp_tables.proofs.ties.push_to.Given as goal

abbrev pub invariant-loop-tie : goal.invariant-loop-tie
invariant-loop-tie l = l.links.items ++ map (link_to l.place) (drop l.tie-index l.ties) ≡ l.initial.links.items ++ map (link_to l.place) l.ties
