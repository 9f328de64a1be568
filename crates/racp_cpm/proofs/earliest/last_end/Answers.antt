use Rattle.std.proofs.Common.{◌≡◌, ◌+◌, ◌<◌, ◌≤◌, ℕ, List, length, slice_index, arith, subst}
use Rattle.racp_model.specs.Project.{duration}
use Rattle.racp_model.proofs.lemmas.Lists.{below_suc}
use Rattle.racp_model.proofs.lemmas.Greater.{greater_is}
use Rattle.racp_cpm.specs.Ends.{IsLastEnd}
use Rattle.racp_cpm.proofs.Paths.{critical_is}
use Rattle.racp_cpm.proofs.earliest.last_end.Goals as goal

pub returns-clause-critical : goal.returns-clause-critical
returns-clause-critical c =
    let net = c.args.net.now in
    let ends : IsLastEnd net c.as_slice-starts.result.now c.loop-i.last =
    record { some = c.loop-i.invariant.some; most = λ i l. c.loop-i.invariant.most i (omega (arith, l, c.job_count-count.ensures.count)) } in
    let P : List ℕ → Type 0 = λ starts. IsLastEnd net starts c.loop-i.last in
    λ release early. critical_is net release c.args.starts.now c.loop-i.last c.job_count-count.ensures.sound early (subst P c.as_slice-starts.ensures ends)

pub loop-i-preserved : goal.loop-i-preserved
loop-i-preserved c =
    let net = c.args.net.now in
    let ends : ℕ → ℕ = λ j. slice_index c.as_slice-starts.result.now j + duration net j in
    let end = slice_index c.as_slice-starts.result.now c.loop-i.i + c.duration-in-loop-i.result in
    let P : ℕ → Type 0 = λ last. record {
      some : (j : ℕ) × (j < length net.jobs) × (ends j ≡ last);
      most : (j : ℕ) → j < c.loop-i.i + 1 → ends j ≤ last;
    } in
    rw c.max-last.ensures (greater_is P c.loop-i.last end
    (λ less. record {
      some = c.loop-i.invariant.some;
      most = λ j l. below_suc (λ (k : ℕ). ends k ≤ c.loop-i.last) c.loop-i.i c.loop-i.invariant.most (omega (arith, c.duration-in-loop-i.ensures, less)) j (omega (arith, l));
    })
    (λ more. record {
      some = (c.loop-i.i, omega (arith, c.loop-i-test.true, c.job_count-count.ensures.count), omega (arith, c.duration-in-loop-i.ensures));
      most = λ j l. below_suc (λ (k : ℕ). ends k ≤ end) c.loop-i.i (λ k m. omega (arith, c.loop-i.invariant.most k m, more)) (omega (arith, c.duration-in-loop-i.ensures)) j (omega (arith, l));
    }))
