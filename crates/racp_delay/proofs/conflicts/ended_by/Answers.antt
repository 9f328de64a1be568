use Rattle.std.proofs.Common.{◌≡◌, ◌≤◌, inl, inr, ℕ, arith, subst}
use Rattle.std.proofs.lemmas.Bool.{cases_lt}
use Rattle.racp_delay.specs.Sweeps.{time_at}
use Rattle.racp_delay.proofs.Sweeping.{event_load-more}
use Rattle.racp_delay.proofs.conflicts.ended_by.Goals as goal

pub loop-count-preserved : goal.loop-count-preserved
loop-count-preserved c = record {
  within = omega arith;
  sums = λ k l. omega (arith, c.with-loads.ensures.sums k l, c.loop-count.invariant.sums k l, event_load-more c.args.net.now k c.args.by_end.now c.loop-count.count (omega arith));
  past = λ q from less. elim (cases_lt q c.loop-count.count) [
    | inl before ↦ c.loop-count.invariant.past q from before
    | inr most ↦
        let here : c.loop-count.count ≡ q = omega arith in
        let now : time_at c.args.by_end.now c.loop-count.count ≤ c.args.time = omega (arith, c.if-by_end-count.true) in
        subst (λ (i : ℕ). time_at c.args.by_end.now i ≤ c.args.time) here now
  ];
}
