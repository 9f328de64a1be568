use Rattle.std.proofs.Common.{◌≡◌, ◌∙◌, ◌<◌, ◌≤◌, ℕ, inl, inr, length, length-set, slice_index, arith, ap, sym}
use Rattle.racp_model.proofs.lemmas.Lists.{at_set, below_suc}
use Rattle.racp_cutset.proofs.rows.write_lower.Goals.{then-time-early, else-time-early}
use Rattle.racp_cutset.proofs.rows.write_lower.Goals as goal

pub loop-i-preserved : goal.loop-i-preserved
loop-i-preserved c =
    let early = slice_index c.args.early.now in
    let lower = slice_index c.args.lower.now in
    let i = c.loop-i.i in
    elim c.if-time-early.branch [
      | then-time-early w ↦
          let place : i < length c.loop-i.ends = omega (arith, c.loop-i-test.true, c.loop-i.invariant.places, c.requires.ends) in
          rw w.ends-is (record {
            places = length-set c.loop-i.ends i (lower i) ∙ c.loop-i.invariant.places;
            before = λ j l started. elim (at_set c.loop-i.ends i (lower i) j place) [
              | inl same ↦ absurd (omega (arith, started, w.if-time-early.true, ap early same.0))
              | inr other ↦ other.1 ∙ c.loop-i.invariant.before j l started
            ];
            after = λ j l later. elim (at_set c.loop-i.ends i (lower i) j place) [
              | inl same ↦ same.1 ∙ sym (ap lower same.0)
              | inr other ↦ other.1 ∙ c.loop-i.invariant.after j (omega (arith, l, other.0)) later
            ];
          })
      | else-time-early w ↦ rw w.ends-is (record {
        places = c.loop-i.invariant.places;
        before = c.loop-i.invariant.before;
        after = λ j l. below_suc (λ (k : ℕ). c.args.time ≤ early k → slice_index c.loop-i.ends k ≡ lower k) i c.loop-i.invariant.after (λ later. absurd (omega (arith, later, w.if-time-early.false))) j (omega (arith, l));
      })
    ]
