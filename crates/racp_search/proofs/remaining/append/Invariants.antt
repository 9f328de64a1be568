use Rattle.std.proofs.Common.{◌≡◌, ◌++◌}
use Rattle.racp_search.proofs.remaining.append.Given as goal

abbrev pub invariant-loop-window : goal.invariant-loop-window
invariant-loop-window l = l.rest.items ≡ l.fn.rest.items ++ l.yielded
