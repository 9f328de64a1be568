use Rattle.std.proofs.Common.{◌≡◌, ℕ, ◌-◌, drop, subst, arith}
use Rattle.racp_derivations.specs.Thinning.{InfersAs}
use Rattle.racp_derivations.proofs.Inferring.{keeps-more}
use Rattle.racp_derivations.proofs.thinning.needed.Goals as goal

pub loop-left-preserved : goal.loop-left-preserved
loop-left-preserved c = (
  omega (arith, c.loop-left.invariant.0),
  keeps-more c.args.literals.now c.loop-left.kept.items c.keep_if_needed.new.kept.items c.loop-left.left (c.loop-left.left - 1) c.loop-left.invariant.1
      c.loop-left.invariant.0 (omega (arith, c.loop-left-test.true)) c.in_ok-keep_if_needed.ensures,
)

pub returns : goal.returns
returns c =
    let none : c.loop-left.left ≡ 0 = omega (arith, c.loop-left-test.false) in
    subst (λ (n : ℕ). InfersAs c.loop-left.kept.items (drop n c.args.literals.now)) none c.loop-left.invariant.1
