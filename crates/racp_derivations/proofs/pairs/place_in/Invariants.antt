use Rattle.std.proofs.Common.{◌-◌}
use Rattle.racp_derivations.specs.Pairs.{IsPlaceIn}
use Rattle.racp_derivations.proofs.pairs.place_in.Given as goal

abbrev pub invariant-loop-low : goal.invariant-loop-low
invariant-loop-low l = IsPlaceIn l.arcs l.wanted l.low l.high

abbrev pub decreases-loop-low : goal.decreases-loop-low
decreases-loop-low l = l.high - l.low
