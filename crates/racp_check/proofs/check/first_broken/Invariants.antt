use Rattle.std.proofs.Common.{ℕ, ◌<◌}
use Rattle.racp_check.proofs.Precedence.{IsKeptAt}
use Rattle.racp_check.proofs.check.first_broken.Given as goal

abbrev pub invariant-loop-before : goal.invariant-loop-before
invariant-loop-before l = (q : ℕ) → q < l.before-index → IsKeptAt l.net l.starts l.before-items q
