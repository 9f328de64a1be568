use Rattle.std.proofs.Common.{◌+◌, ◌-◌, ℕ, List, slice_index, take, arith, subst, sym}
use Rattle.racp_search.proofs.Raising.{IsRaising, raising-write, raising-skip}
use Rattle.racp_search.proofs.child.raise.Goals as goal
use Rattle.racp_search.proofs.child.raise.Goals.{then-times-place, else-times-place}

pub loop-job-preserved : goal.loop-job-preserved
loop-job-preserved c =
    let k = c.loop-job.job-index in
    let job : ℕ = slice_index c.args.gone.now k in
    let number = c.requires k 0 c.loop-job-test.true in
    let Raised : List ℕ → Type 0 = λ times. IsRaising c.args.times.now (take (k + 1) c.args.gone.now) c.args.end times in
    elim c.if-times-place.branch [
      | then-times-place w ↦ subst Raised (sym w.times-is) (raising-write c.args.times.now c.args.gone.now c.args.end c.loop-job.times k job (job - 1) c.loop-job.invariant c.loop-job-test.true (omega arith) (omega (arith, number.0)) (omega (arith, number.0, number.1)) w.if-times-place.true)
      | else-times-place w ↦ subst Raised (sym w.times-is) (raising-skip c.args.times.now c.args.gone.now c.args.end c.loop-job.times k job (job - 1) c.loop-job.invariant c.loop-job-test.true (omega arith) (omega (arith, number.0)) (omega (arith, number.0, number.1)) w.if-times-place.false)
    ]
