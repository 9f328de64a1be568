use Rattle.std.proofs.Common.{All, ◌≤◌}
use Rattle.racp_model.specs.Limits.{most_bound}
use Rattle.racp_trees.specs.Branches.{IsRaised}
use Rattle.racp_trees.proofs.branch.raised.Given as goal

abbrev pub invariant-loop-i : goal.invariant-loop-i
invariant-loop-i l = IsRaised l.times l.gone l.end l.i l.raised.items × All (λ x. x ≤ most_bound) l.raised.items
