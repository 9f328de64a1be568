use Rattle.std.proofs.Common.{◌≡◌, length}
use Rattle.racp_sm.specs.Reading.{from_first}
use Rattle.racp_sm.specs.Steps.{has_mark}
use Rattle.racp_sm.proofs.line.Lines.skip_to.Given as goal

abbrev pub invariant-loop-mark : goal.invariant-loop-mark
invariant-loop-mark l = from_first (has_mark l.mark) l.fn.self ≡ from_first (has_mark l.mark) l.self

abbrev pub decreases-loop-mark : goal.decreases-loop-mark
decreases-loop-mark l = length l.self
