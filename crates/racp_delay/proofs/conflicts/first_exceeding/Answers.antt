use Rattle.std.proofs.Common.{ℕ, slice_index, arith, subst, refl}
use Rattle.racp_delay.specs.Branching.{IsFirstExcess}
use Rattle.racp_delay.proofs.Events.{event_at, IsEvent, each-event, ends_of}
use Rattle.racp_delay.proofs.Sweeping.{event_load-small, sweeping-start, sweeping-stop, sweeping-next, never-exceeds}
use Rattle.racp_delay.proofs.conflicts.first_exceeding.Goals as goal

pub loop-time-init : goal.loop-time-init
loop-time-init c = sweeping-start c.args.net.now c.args.capacities.now c.args.starts.now c.args.by_start.now c.args.by_end.now c.requires.by_start c.requires.by_end

pub with-started-requires-clause-job : goal.with-started-requires-clause-job
with-started-requires-clause-job c = (each-event c.args.net.now (slice_index c.args.starts.now) c.args.by_start.now c.requires.by_start c.loop-time.time-index (0, 0) c.loop-time-test.true).0

pub with-started-requires-clause-small : goal.with-started-requires-clause-small
with-started-requires-clause-small c k l =
    omega (arith, c.loop-time.invariant.begun k l, event_load-small c.args.net.now (slice_index c.args.starts.now) c.args.by_start.now c.requires.sound c.requires.by_start c.loop-time.time-index k l)

pub ended_by-ended-requires-clause-within : goal.ended_by-ended-requires-clause-within
ended_by-ended-requires-clause-within c = c.loop-time.invariant.within

pub ended_by-ended-requires-clause-sums : goal.ended_by-ended-requires-clause-sums
ended_by-ended-requires-clause-sums c = c.loop-time.invariant.over

pub ended_by-ended-requires-clause-numbers : goal.ended_by-ended-requires-clause-numbers
ended_by-ended-requires-clause-numbers c i d l = (each-event c.args.net.now (ends_of c.args.net.now c.args.starts.now) c.args.by_end.now c.requires.by_end i d l).0

pub ended_by-ended-requires-clause-small : goal.ended_by-ended-requires-clause-small
ended_by-ended-requires-clause-small c m k l = event_load-small c.args.net.now (ends_of c.args.net.now c.args.starts.now) c.args.by_end.now c.requires.sound c.requires.by_end m k l

pub overflow_sub-result : goal.overflow_sub-result
overflow_sub-result c = (each-event c.args.net.now (slice_index c.args.starts.now) c.args.by_start.now c.requires.by_start c.loop-time.time-index (0, 0) c.loop-time-test.true).0.0

pub bounds-starts-job : goal.bounds-starts-job
bounds-starts-job c =
    let is : IsEvent c.args.net.now (slice_index c.args.starts.now) (event_at c.args.by_start.now c.loop-time.time-index) = each-event c.args.net.now (slice_index c.args.starts.now) c.args.by_start.now c.requires.by_start c.loop-time.time-index (0, 0) c.loop-time-test.true in
    omega (arith, is.0.0, is.0.1)

pub returns-then-exceeds : goal.returns-then-exceeds
returns-then-exceeds c =
    let event : ℕ × ℕ = event_at c.args.by_start.now c.loop-time.time-index in
    let is : IsEvent c.args.net.now (slice_index c.args.starts.now) event = each-event c.args.net.now (slice_index c.args.starts.now) c.args.by_start.now c.requires.by_start c.loop-time.time-index (0, 0) c.loop-time-test.true in
    let first : IsFirstExcess c.args.net.now c.args.capacities.now c.args.starts.now event.0 =
    sweeping-stop c.args.net.now c.args.capacities.now c.args.starts.now c.args.by_start.now c.args.by_end.now c.requires.by_start c.requires.by_end c.loop-time.time-index c.loop-time.ended.count c.ended_by-ended.result.count c.loop-time.started c.loop-time.ended.loads c.with-started.result c.ended_by-ended.result.loads
    event.0 c.loop-time.invariant c.loop-time-test.true refl c.with-started.ensures.sums c.ended_by-ended.ensures (c.exceeds.ensures.0 c.if-exceeds.true) in
    subst (λ (t : ℕ). IsFirstExcess c.args.net.now c.args.capacities.now c.args.starts.now t) is.1 first

pub loop-time-preserved : goal.loop-time-preserved
loop-time-preserved c =
    let event : ℕ × ℕ = event_at c.args.by_start.now c.loop-time.time-index in
    sweeping-next c.args.net.now c.args.capacities.now c.args.starts.now c.args.by_start.now c.args.by_end.now c.requires.by_start c.requires.by_end c.loop-time.time-index c.loop-time.ended.count c.ended_by-ended.result.count c.loop-time.started c.loop-time.ended.loads c.with-started.result c.ended_by-ended.result.loads
    event.0 c.loop-time.invariant c.loop-time-test.true refl c.with-started.ensures.sums c.ended_by-ended.ensures (λ more. cc (c.exceeds.ensures.1 more, c.if-exceeds.false))

pub returns : goal.returns
returns c = never-exceeds c.args.net.now c.args.capacities.now c.args.starts.now c.args.by_start.now c.args.by_end.now c.requires.by_start c.requires.by_end c.loop-time.time-index (omega arith) c.loop-time.invariant.checked
