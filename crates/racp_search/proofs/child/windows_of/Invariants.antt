use Rattle.std.proofs.Common.{◌≡◌}
use Rattle.racp_search.specs.DepthFirst.{child_windows}
use Rattle.racp_search.proofs.child.windows_of.Given as goal

abbrev pub invariant-loop-child : goal.invariant-loop-child
invariant-loop-child l = l.windows.items ≡ child_windows l.yielded
