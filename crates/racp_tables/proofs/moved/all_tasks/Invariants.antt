use Rattle.std.proofs.Common.{◌≡◌, ◌+◌, drop}
use Rattle.racp_tables.specs.Joined.{all_tasks}
use Rattle.racp_tables.proofs.moved.all_tasks.Given as goal

abbrev pub invariant-loop-i : goal.invariant-loop-i
invariant-loop-i l = l.count + all_tasks (drop l.i l.parts) ≡ all_tasks l.parts
