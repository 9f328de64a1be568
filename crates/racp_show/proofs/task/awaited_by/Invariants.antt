use Rattle.std.proofs.Common.{◌≡◌, ◌++◌, drop, flat_map}
use Rattle.racp_show.specs.Tasks.{awaited}
use Rattle.racp_show.proofs.task.awaited_by.Given as goal

abbrev pub invariant-loop-number : goal.invariant-loop-number
invariant-loop-number l = l.found.items ++ flat_map (awaited l.net l.tasks) (drop l.number-index l.numbers) ≡ flat_map (awaited l.net l.tasks) l.numbers
