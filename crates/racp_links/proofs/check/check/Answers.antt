use Rattle.std.proofs.Common.{arith}
use Rattle.racp_links.proofs.Counted.{jobs_more, well_more}
use Rattle.racp_links.proofs.check.check.Goals as goal

pub loop-place-preserved : goal.loop-place-preserved
loop-place-preserved c =
    let told = c.in_ok-jobs.ensures in
    record {
      jobs = omega (arith, told.1, c.loop-place.invariant.jobs, jobs_more c.args.durations.now c.args.links.now c.loop-place.place c.loop-place-test.true);
      before = well_more c.args.durations.now c.args.links.now c.loop-place.place c.loop-place.jobs c.loop-place.invariant.jobs c.loop-place.invariant.before told.0;
    }
