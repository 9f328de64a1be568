use Rattle.std.proofs.Common.{◌≡◌, ◌++◌, string_bytes, drop}
use Rattle.racp_charts.specs.Links.{links_from}
use Rattle.racp_charts.proofs.links.push_all.Given as goal

abbrev pub invariant-loop-place : goal.invariant-loop-place
invariant-loop-place l = string_bytes l.text ++ links_from l.span l.rows l.place (drop l.place l.rows) ≡ string_bytes l.initial.text ++ links_from l.span l.rows 0 l.rows
