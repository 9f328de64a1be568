use Rattle.std.proofs.Common.{◌≡◌, ◌++◌, drop, map}
use Rattle.racp_show.specs.Tasks.{lagging}
use Rattle.racp_show.proofs.task.push_lagging.Given as goal

abbrev pub invariant-loop-number : goal.invariant-loop-number
invariant-loop-number l = l.found.items ++ map (lagging l.lag) (drop l.number-index l.numbers) ≡ l.initial.found.items ++ map (lagging l.lag) l.numbers
