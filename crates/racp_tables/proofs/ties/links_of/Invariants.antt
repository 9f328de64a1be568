use Rattle.std.proofs.Common.{◌≡◌, ◌++◌, drop}
use Rattle.racp_tables.specs.Rows.{links_behind}
use Rattle.racp_tables.proofs.ties.links_of.Given as goal

abbrev pub invariant-loop-i : goal.invariant-loop-i
invariant-loop-i l = l.links.items ++ links_behind l.i (drop l.i l.all) ≡ links_behind 0 l.all
