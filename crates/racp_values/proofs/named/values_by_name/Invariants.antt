use Rattle.std.proofs.Common.{◌≡◌, length}
use Rattle.racp_values.proofs.named.values_by_name.Given as goal

abbrev pub invariant-loop-part : goal.invariant-loop-part
invariant-loop-part l = length l.found.items ≡ length l.names
