use Rattle.std.proofs.Common.{refl}
use Rattle.racp_cutset.proofs.local.Local.find.Goals as goal

pub returns : goal.returns
returns g c = ((refl, λ _. tt, c.read.ensures), record { kept = tt; covers = c.look.ensures.covers; refutes = c.look.ensures.refutes })
