use Rattle.std.proofs.Common.{arith, refl}
use Rattle.racp_model.proofs.lemmas.Latest.{usage-within}
use Rattle.racp_model.proofs.fitting.keeps_capacity.Goals as goal

pub returns : goal.returns
returns c = (λ _. usage-within c.args.net.now c.args.starts.now c.args.k c.args.capacity (λ j l. c.loop-start.invariant j (omega arith)), λ _. refl)
