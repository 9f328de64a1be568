use Rattle.std.proofs.Common.{◌≡◌, ◌++◌, drop}
use Rattle.racp_show.specs.Tasks.{precedents}
use Rattle.racp_show.proofs.task.precedents.Given as goal

abbrev pub invariant-loop-arc : goal.invariant-loop-arc
invariant-loop-arc l = l.numbers.items ++ precedents l.i (drop l.arc-index l.arcs) ≡ precedents l.i l.arcs
