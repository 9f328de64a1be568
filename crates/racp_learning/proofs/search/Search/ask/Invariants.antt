use Rattle.std.proofs.Common.{◌-◌}
use Rattle.std.specs.Prelude.{⊤}
use Rattle.racp_learning.proofs.search.Search.ask.Given as goal

abbrev pub invariant-halts : goal.invariant-halts
invariant-halts g l = ⊤

abbrev pub decreases-halts : goal.decreases-halts
decreases-halts g l = 18446744073709551615 - l.self.tally.halts
