use Rattle.std.proofs.Common.{ℕ, ◌+◌, List, Vec, Global, arith, ap, subst, sym}
use Rattle.racp_whatif.specs.Within.{AreWorkers}
use Rattle.racp_whatif.proofs.Jobs.{no_worker, worker-added, worker-passed}
use Rattle.racp_whatif.proofs.joint.workers.Goals.{then-part_of-gt0+else-prove+in_ok-push_job, else-part_of-gt0}
use Rattle.racp_whatif.proofs.joint.workers.Goals as goal

pub loop-i-init : goal.loop-i-init
loop-i-init c = subst (AreWorkers c.args.net.now c.args.window.now c.args.k c.args.times.from c.args.times.until 0) (sym c.new-jobs.ensures.items) (no_worker c.args.net.now c.args.window.now c.args.k c.args.times.from c.args.times.until)

pub loop-i-preserved : goal.loop-i-preserved
loop-i-preserved c =
    let p = c.args.net.now in
    let window = c.args.window.now in
    let k : ℕ = c.args.k in
    let from : ℕ = c.args.times.from in
    let until : ℕ = c.args.times.until in
    let i : ℕ = c.loop-i.i in
    let jobs : List ℕ = c.loop-i.jobs.items in
    let Are : List ℕ → Type 0 = AreWorkers p window k from until (i + 1) in
    elim c.if-part_of-gt0.branch [
      | then-part_of-gt0+else-prove+in_ok-push_job w ↦
          subst Are (sym (ap (λ (v : Vec ℕ Global). v.items) w.jobs-is)) (worker-added p window k from until i jobs w.push_job.new.jobs.items w.in_ok-push_job.ensures (omega (arith, w.if-part_of-gt0.true, c.part_of.ensures.part)) c.loop-i.invariant)
      | else-part_of-gt0 w ↦
          subst Are (sym (ap (λ (v : Vec ℕ Global). v.items) w.jobs-is)) (worker-passed p window k from until i jobs (omega (arith, w.if-part_of-gt0.false, c.part_of.ensures.part)) c.loop-i.invariant)
    ]
