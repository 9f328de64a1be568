use Rattle.std.proofs.Common.{◌≡◌, ◌++◌, drop}
use Rattle.racp_json.proofs.bound.narrowed.Given as goal

abbrev pub invariant-loop-number : goal.invariant-loop-number
invariant-loop-number l = l.units.items ++ drop l.number-index l.numbers ≡ l.numbers
