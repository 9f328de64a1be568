use Rattle.std.proofs.Common.{refl}
use Rattle.racp_bounds.proofs.sharp.units_at.Goals as goal

pub returns : goal.returns
returns c = refl
