use Rattle.std.proofs.Common.{◌≡◌, ℕ, inl, inr, length, slice_index, arith, subst}
use Rattle.std.proofs.lemmas.Bool.{cases_lt}
use Rattle.racp_whatif.specs.Fitting.{AllWorkFits}
use Rattle.racp_whatif.proofs.joint.joint_above.Goals as goal

pub loop-k-preserved : goal.loop-k-preserved
loop-k-preserved c =
    let Fits : ℕ → Type 0 = λ k. AllWorkFits c.args.net.now c.args.window.now k (slice_index c.args.ceilings.now k) (length c.args.net.now.jobs) in
    λ k l. elim (cases_lt k c.loop-k.k) [
      | inl before ↦ c.loop-k.invariant k before
      | inr at ↦ let same : c.loop-k.k ≡ k = omega (arith, l, at) in subst Fits same (c.overload.ensures.none c.in_default.is)
    ]

pub returns-clause-none : goal.returns-clause-none
returns-clause-none c = λ e k l. c.loop-k.invariant k (omega (arith, l, c.loop-k-test.false, c.loop-k.auto.k-end, c.resource_count-k-end.ensures.count))
