use Rattle.std.proofs.Common.{◌+◌, ◌<◌, ◌≤◌, ℕ, List, slice_index, arith, refl, subst}
use Rattle.racp_model.specs.Project.{duration}
use Rattle.racp_model.proofs.lemmas.Lists.{below_suc}
use Rattle.racp_cpm.proofs.root_window.first_late.Goals as goal

pub returns-then-due-i : goal.returns-then-due-i
returns-then-due-i c =
    let net = c.args.net.now in
    let due = slice_index c.args.due.now in (
      c.loop-i.i,
      refl,
      record {
        job = omega (arith, c.loop-i-test.true, c.job_count-i-end.ensures.count);
        late = subst (λ (starts : List ℕ). due c.loop-i.i < slice_index starts c.loop-i.i + duration net c.loop-i.i) c.as_slice-starts.ensures (omega (arith, c.if-due-i.true, c.duration.ensures));
        first = subst (λ (starts : List ℕ). (j : ℕ) → j < c.loop-i.i → slice_index starts j + duration net j ≤ due j) c.as_slice-starts.ensures c.loop-i.invariant;
      },
    )

pub loop-i-preserved : goal.loop-i-preserved
loop-i-preserved c = λ q l.
    below_suc (λ (j : ℕ). slice_index c.as_slice-starts.result.now j + duration c.args.net.now j ≤ slice_index c.args.due.now j) c.loop-i.i c.loop-i.invariant (omega (arith, c.if-due-i.false, c.duration.ensures)) q (omega (arith, l))
