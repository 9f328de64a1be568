use Rattle.std.proofs.Common.{ℕ, arith, ap}
use Rattle.std.specs.Int.{div_ceil}
use Rattle.racp_bounds.proofs.Energy.{over-small}
use Rattle.racp_bounds.proofs.floor.energy_over.Goals as goal

pub overflow_cast-result : goal.overflow_cast-result
overflow_cast-result c =
    omega (
      arith,
      over-small c.args.net.now c.args.k c.args.deadline c.energy_of.ensures.sound c.requires.resource (omega arith) (λ i l. omega (arith, c.requires.ends i l)),
      c.div_ceil.ensures,
      ap (λ (e : ℕ). div_ceil e c.args.deadline) c.energy_of.ensures.energy,
    )
