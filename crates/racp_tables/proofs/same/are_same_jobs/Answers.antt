use Rattle.std.proofs.Common.{◌≡◌, ◌≤◌, length, arith}
use Rattle.racp_tables.proofs.Equal.{same_jobs}
use Rattle.racp_tables.proofs.same.are_same_jobs.Goals as goal

pub returns : goal.returns
returns c = λ e.
    let many : length c.args.a.now.jobs ≡ length c.args.b.now.jobs = omega (arith, c.if-job_count.false, c.job_count.ensures.count, c.job_count-2.ensures.count) in
    let end : length c.args.a.now.jobs ≤ c.loop-i.i = omega (arith, c.loop-i-test.false, c.job_count-i-end.ensures.count) in
    same_jobs c.args.a.now.jobs c.args.b.now.jobs many (λ i l. c.loop-i.invariant i (omega (arith, l, end)))
