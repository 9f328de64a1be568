use Rattle.std.proofs.Common.{◌∙◌}
use Rattle.racp_delay.proofs.Loading.{next-number, loads-small}
use Rattle.racp_delay.proofs.Parting.{parting-start, parted-small, parting-free, parting-held, parting-end}
use Rattle.racp_delay.proofs.loads.split_free.Goals as goal

pub loop-job-init : goal.loop-job-init
loop-job-init c = parting-start c.args.net.now c.args.active.now c.args.free.now c.clear.new.self.items c.into_iter-job-iterator.result 16 c.clear.ensures.items (c.into_iter-job-iterator.ensures.into_iter_gives ∙ c.iter-job-items.ensures.same)

pub with-left-requires-clause-job : goal.with-left-requires-clause-job
with-left-requires-clause-job c =
    let h = c.loop-job.invariant in
    next-number c.args.net.now c.args.active.now h.taken c.loop-job.job-iterator c.loop-job.left c.in-Some.job c.next.new.self h.loading c.in-Some.ensures.steps c.requires

pub with-left-requires-clause-small : goal.with-left-requires-clause-small
with-left-requires-clause-small c =
    let h = c.loop-job.invariant in
    loads-small c.args.net.now c.args.active.now h.taken c.loop-job.job-iterator c.loop-job.left c.in-Some.job c.next.new.self h.loading c.in-Some.ensures.steps c.iter-job-items.ensures.jobs

pub with-kept-requires-clause-small : goal.with-kept-requires-clause-small
with-kept-requires-clause-small c =
    parted-small c.args.net.now c.args.active.now c.args.free.now c.loop-job.list.items c.loop-job.job-iterator c.loop-job.kept c.loop-job.left c.in-Some.job c.next.new.self c.loop-job.invariant c.in-Some.ensures.steps c.iter-job-items.ensures.jobs

pub loop-job-preserved : goal.loop-job-preserved
loop-job-preserved c =
    let h = c.loop-job.invariant in
    let number = next-number c.args.net.now c.args.active.now h.taken c.loop-job.job-iterator c.loop-job.left c.in-Some.job c.next.new.self h.loading c.in-Some.ensures.steps c.requires in
    parting-free c.args.net.now c.args.active.now c.args.free.now c.loop-job.list.items c.loop-job.job-iterator c.loop-job.kept c.loop-job.left c.in-Some.job c.next.new.self h c.in-Some.ensures.steps
    c.with-left.result c.with-left.ensures.sound number c.with-left.ensures.sums (c.contains.ensures.is.0 c.if-not-contains.false) c.push.new.self.items c.in_ok-push.ensures.items

pub loop-job-preserved-then-not-contains : goal.loop-job-preserved-then-not-contains
loop-job-preserved-then-not-contains c =
    let h = c.loop-job.invariant in
    let number = next-number c.args.net.now c.args.active.now h.taken c.loop-job.job-iterator c.loop-job.left c.in-Some.job c.next.new.self h.loading c.in-Some.ensures.steps c.requires in
    parting-held c.args.net.now c.args.active.now c.args.free.now c.loop-job.list.items c.loop-job.job-iterator c.loop-job.kept c.loop-job.left c.in-Some.job c.next.new.self h c.in-Some.ensures.steps
    c.with-left.result c.with-left.ensures.sound number c.with-left.ensures.sums (λ is. cc (c.contains.ensures.is.1 is, c.if-not-contains.true)) c.with-kept.result c.with-kept.ensures.sums

pub returns-clause-free : goal.returns-clause-free
returns-clause-free c = parting-end c.args.net.now c.args.active.now c.args.free.now c.loop-job.list.items c.loop-job.job-iterator c.loop-job.kept c.loop-job.left c.loop-job.invariant c.in-None.ensures.steps.0 c.iter-job-items.ensures.jobs
