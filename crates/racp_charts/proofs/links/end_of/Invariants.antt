use Rattle.std.proofs.Common.{◌≡◌, drop}
use Rattle.racp_charts.specs.Links.{end_of}
use Rattle.racp_charts.proofs.links.end_of.Given as goal

abbrev pub invariant-loop-place : goal.invariant-loop-place
invariant-loop-place l = end_of l.number l.place (drop l.place l.rows) ≡ end_of l.number 0 l.rows
