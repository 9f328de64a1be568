use Rattle.std.proofs.Common.{◌≤◌, vec_len}
use Rattle.racp_search.proofs.child.insert.Given as goal

abbrev pub invariant-loop-at : goal.invariant-loop-at
invariant-loop-at l = l.at ≤ vec_len l.children

abbrev pub decreases-loop-at : goal.decreases-loop-at
decreases-loop-at l = l.at
