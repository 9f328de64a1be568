use Rattle.std.proofs.Common.{refl}
use Rattle.racp_whatif.proofs.Jobs.{work-above}
use Rattle.racp_whatif.proofs.joint.need_of.Goals as goal

pub returns : goal.returns
returns c ceilings over =
    work-above c.args.net.now c.args.window.now ceilings c.args.k c.args.work c.in_ok-jobs.jobs.items
    (record { place = c.args.k; units = c.div_ceil-units.result; from = c.args.work.times.from; until = c.args.work.times.until; jobs = c.in_ok-jobs.jobs }) c.least_work_is_done.ensures c.requires.resource over
    c.in_ok-jobs.ensures refl c.div_ceil-units.ensures refl refl refl
