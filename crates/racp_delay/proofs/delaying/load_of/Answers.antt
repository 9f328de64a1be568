use Rattle.std.proofs.Common.{◌∙◌}
use Rattle.racp_delay.proofs.Loading.{loading-start, next-number, loads-small, loading-next, loads-end}
use Rattle.racp_delay.proofs.delaying.load_of.Goals as goal

pub loop-job-init : goal.loop-job-init
loop-job-init c = loading-start c.args.net.now c.args.jobs.now c.clear.new.self.items c.into_iter-job-iterator.result 16 c.clear.ensures.items (c.into_iter-job-iterator.ensures.into_iter_gives ∙ c.iter-job-items.ensures.same)

pub with-loads-requires-clause-job : goal.with-loads-requires-clause-job
with-loads-requires-clause-job c =
    next-number c.args.net.now c.args.jobs.now c.loop-job.list.items c.loop-job.job-iterator c.loop-job.loads c.in-Some.job c.next.new.self c.loop-job.invariant c.in-Some.ensures.steps c.requires

pub with-loads-requires-clause-small : goal.with-loads-requires-clause-small
with-loads-requires-clause-small c =
    loads-small c.args.net.now c.args.jobs.now c.loop-job.list.items c.loop-job.job-iterator c.loop-job.loads c.in-Some.job c.next.new.self c.loop-job.invariant c.in-Some.ensures.steps c.iter-job-items.ensures.jobs

pub loop-job-preserved : goal.loop-job-preserved
loop-job-preserved c =
    let number = next-number c.args.net.now c.args.jobs.now c.loop-job.list.items c.loop-job.job-iterator c.loop-job.loads c.in-Some.job c.next.new.self c.loop-job.invariant c.in-Some.ensures.steps c.requires in
    loading-next c.args.net.now c.args.jobs.now c.loop-job.list.items c.loop-job.job-iterator c.loop-job.loads c.in-Some.job c.next.new.self c.loop-job.invariant c.in-Some.ensures.steps
    c.push.new.self.items c.with-loads.result c.with-loads.ensures.sound number c.in_ok-push.ensures.items c.with-loads.ensures.sums

pub returns-clause-loads : goal.returns-clause-loads
returns-clause-loads c = loads-end c.args.net.now c.args.jobs.now c.loop-job.list.items c.loop-job.job-iterator c.loop-job.loads c.loop-job.invariant c.in-None.ensures.steps.0 c.iter-job-items.ensures.jobs
