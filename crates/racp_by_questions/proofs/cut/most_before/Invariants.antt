use Rattle.std.proofs.Common.{◌-◌}
use Rattle.racp_by_questions.proofs.Cutting.{IsHalving}
use Rattle.racp_by_questions.proofs.cut.most_before.Given as goal

abbrev pub invariant-loop-least : goal.invariant-loop-least
invariant-loop-least l = IsHalving l.net l.order l.fn.units.items l.known.best l.k l.roof l.least l.most l.units.items

abbrev pub decreases-loop-least : goal.decreases-loop-least
decreases-loop-least l = l.most - l.least
