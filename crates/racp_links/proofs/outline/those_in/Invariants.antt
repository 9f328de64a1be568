use Rattle.std.proofs.Common.{◌≡◌, take}
use Rattle.std.specs.Prelude.{filter}
use Rattle.racp_links.specs.Phases.{is_in}
use Rattle.racp_links.proofs.outline.those_in.Given as goal

abbrev pub invariant-loop-task : goal.invariant-loop-task
invariant-loop-task l = l.found.items ≡ filter (is_in l.parents l.whole) (take l.task-index l.tasks)
