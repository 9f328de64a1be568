use Rattle.std.proofs.Common.{◌≡◌, length}
use Rattle.racp_values.proofs.heading.joined.Given as goal

abbrev pub invariant-loop-k : goal.invariant-loop-k
invariant-loop-k l = length l.names.items ≡ l.k
