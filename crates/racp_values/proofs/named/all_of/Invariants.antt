use Rattle.std.proofs.Common.{◌≡◌, length}
use Rattle.racp_values.proofs.named.all_of.Given as goal

abbrev pub invariant-loop-place : goal.invariant-loop-place
invariant-loop-place l = length l.values.items ≡ l.place
