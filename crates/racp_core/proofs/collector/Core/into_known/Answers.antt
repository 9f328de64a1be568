use Rattle.std.proofs.Common.{subst}
use Rattle.racp_core.specs.Machine.{Machine}
use Rattle.racp_core.specs.Truth.{IsState}
use Rattle.racp_core.proofs.collector.Core.into_known.Goals as goal

pub returns-clause-state : goal.returns-clause-state
returns-clause-state g c = subst (λ (x : Machine). IsState g.N.OfNetwork.network x c.self.inside.undecided) c.self.view_is c.self.invariant
