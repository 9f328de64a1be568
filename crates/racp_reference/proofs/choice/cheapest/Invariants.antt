use Rattle.racp_reference.specs.Boxes.{IsInBox}
use Rattle.racp_reference.proofs.Choosing.{IsBestOf, IsEarlier}
use Rattle.racp_reference.proofs.Counts.{left}
use Rattle.racp_reference.proofs.choice.cheapest.Given as goal

abbrev pub invariant-vectors : goal.invariant-vectors
invariant-vectors l = record {
  within : IsInBox l.least.items l.most l.capacities;
  best : IsBestOf l.net l.order l.window (IsEarlier l.least.items l.most l.capacities) l.best;
}

abbrev pub decreases-vectors : goal.decreases-vectors
decreases-vectors l = left l.least.items l.most l.capacities
