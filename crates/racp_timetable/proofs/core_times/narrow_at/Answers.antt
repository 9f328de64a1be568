use Rattle.std.proofs.Common.{arith}
use Rattle.racp_timetable.specs.Cores.{AreWithin}
use Rattle.racp_timetable.proofs.Moving.{narrowed-same, narrowed-on, narrowed-no}
use Rattle.racp_timetable.proofs.Cores.{core_within}
use Rattle.racp_timetable.proofs.core_times.narrow_at.Goals as goal

pub returns-then-not-are_within : goal.returns-then-not-are_within
returns-then-not-are_within c from first starts answers =
    let core = c.core_at-core.result in
    let within : AreWithin c.args.net.now c.args.capacities.now core.loads = core_within c.args.net.now c.args.window.now starts core answers.lies c.core_at-core.ensures.core c.args.capacities.now (λ k r. answers.fits.within k core.time r) in
    cc (c.are_within.ensures.1 within, c.if-not-are_within.true)

pub loop-i-init : goal.loop-i-init
loop-i-init c from first = narrowed-same c.args.net.now c.args.capacities.now from c.args.window.now c.requires.bounds

pub narrow_job-requires-clause-bounds : goal.narrow_job-requires-clause-bounds
narrow_job-requires-clause-bounds c = (c.loop-i.invariant 0 (omega arith)).bounds

pub narrow_job-requires-clause-core : goal.narrow_job-requires-clause-core
narrow_job-requires-clause-core c = record { outer = c.args.window.now; inside = (c.loop-i.invariant 0 (omega arith)).inside; is = c.core_at-core.ensures.core }

pub returns-then-not-narrow_job : goal.returns-then-not-narrow_job
returns-then-not-narrow_job c from first =
    narrowed-no c.args.net.now c.args.capacities.now from c.args.window.now c.loop-i.window c.narrow_job.new.window c.narrow_job.result (c.loop-i.invariant from first) (c.narrow_job.ensures from (omega (arith, c.core_at-core.ensures.time))) c.if-not-narrow_job.true

pub loop-i-preserved : goal.loop-i-preserved
loop-i-preserved c from first =
    narrowed-on c.args.net.now c.args.capacities.now from c.args.window.now c.loop-i.window c.narrow_job.new.window c.narrow_job.result (c.loop-i.invariant from first) (c.narrow_job.ensures from (omega (arith, c.core_at-core.ensures.time))) c.if-not-narrow_job.false
