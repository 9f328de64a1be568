use Rattle.std.proofs.Common.{◌≡◌, ◌-◌, ◌<◌, ◌≤◌, ◌^◌}
use Rattle.racp_charts.specs.Texts.{mark_from, mark_of}
use Rattle.racp_charts.proofs.mark.mark_of.Given as goal

abbrev pub invariant-loop-round : goal.invariant-loop-round
invariant-loop-round l = (mark_from (18 - l._round) l.power l.most-2 ≡ mark_of l.most-2) × (1 ≤ l.power) × (l.power < 2 ^ 62)
