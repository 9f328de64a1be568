use Rattle.std.proofs.Common.{subst}
use Rattle.racp_core.specs.Truth.{IsSoundState}
use Rattle.racp_core.proofs.collector.Core.taken.Goals as goal

pub returns-clause-sound : goal.returns-clause-sound
returns-clause-sound g c = subst (IsSoundState g.N.OfNetwork.network) c.self.view_is c.self.invariant.sound
