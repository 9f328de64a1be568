use Rattle.std.proofs.Common.{◌≡◌, ℕ, ◌+◌, ◌<◌, ◌≤◌, length, slice_index, arith, sym}
use Rattle.racp_model.specs.Schedule.{use_of, usage}
use Rattle.racp_model.proofs.lemmas.Greater.{greater_is}
use Rattle.racp_model.proofs.lemmas.Lists.{below_suc}
use Rattle.racp_model.proofs.lemmas.Latest.{usage-within}
use Rattle.racp_model.proofs.lemmas.Sums.{sum_below-bound, use_of-small}
use Rattle.racp_model.proofs.usage.peak.Goals as goal

pub overflow_cast-result : goal.overflow_cast-result
overflow_cast-result c =
    let net = c.args.net.now in
    let reached = c.loop-i.invariant.reached in
    let sound = c.job_count-i-end.ensures.sound in
    omega (
      arith,
      reached.1,
      sound.limits.most_jobs,
      sum_below-bound (length net.jobs) 10000 (use_of net c.args.starts.now c.args.k reached.0) (λ i job. use_of-small net c.args.starts.now c.args.k reached.0 i sound job c.requires.resource),
    )

pub returns : goal.returns
returns c = record {
  most = usage-within c.args.net.now c.args.starts.now c.args.k c.loop-i.most (λ j l. c.loop-i.invariant.most j (omega (arith, c.job_count-i-end.ensures.count, c.requires.starts)));
  reached = c.loop-i.invariant.reached;
}

pub loop-i-preserved : goal.loop-i-preserved
loop-i-preserved c =
    let used : ℕ → ℕ = λ time. usage c.args.net.now c.args.starts.now c.args.k time in
    let start : ℕ → ℕ = λ q. slice_index c.args.starts.now q in
    let P : ℕ → Type 0 = λ top. record {
      most : (q : ℕ) → q < c.loop-i.i + 1 → used (start q) ≤ top;
      reached : (t : ℕ) × (used t ≡ top);
    } in
    rw c.max-most.ensures (greater_is P c.loop-i.most c.usage_at.result
    (λ less. record {
      most = λ q l. below_suc (λ (j : ℕ). used (start j) ≤ c.loop-i.most) c.loop-i.i c.loop-i.invariant.most (omega (arith, c.usage_at.ensures, less)) q (omega (arith, l));
      reached = c.loop-i.invariant.reached;
    })
    (λ more. record {
      most = λ q l. below_suc (λ (j : ℕ). used (start j) ≤ c.usage_at.result) c.loop-i.i (λ j m. omega (arith, c.loop-i.invariant.most j m, more)) (omega (arith, c.usage_at.ensures)) q (omega (arith, l));
      reached = (start c.loop-i.i, sym c.usage_at.ensures);
    }))
