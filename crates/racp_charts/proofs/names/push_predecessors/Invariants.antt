use Rattle.std.proofs.Common.{◌≡◌, ◌++◌, string_bytes, drop}
use Rattle.racp_charts.specs.Elements.{predecessor_list}
use Rattle.racp_charts.proofs.names.push_predecessors.Given as goal

abbrev pub invariant-loop-place : goal.invariant-loop-place
invariant-loop-place l = string_bytes l.text ++ predecessor_list l.place (drop l.place l.predecessors) ≡ string_bytes l.initial.text ++ predecessor_list 0 l.predecessors
