use Rattle.std.proofs.Common.{◌≡◌, ◌+◌, ◌-◌, ◌<◌, ℕ, List, length, slice_index, arith, ap, subst, sym, refl}
use Rattle.racp_model.specs.Project.{request}
use Rattle.racp_model.specs.Schedule.{IsActive}
use Rattle.racp_delay.proofs.ActiveSets.{AreActiveBelow, active-none, active-more, active-same, active-end}
use Rattle.racp_delay.proofs.Scanning.{loads-none, loads-more, loads-same, loads-all, loads-small, not_yet, over_by, next-none, next-sooner, next-same, next-all}
use Rattle.racp_delay.proofs.scans.running_at.Goals as goal
use Rattle.racp_delay.proofs.scans.running_at.Goals.{then-time-start+then-start-next, then-time-start+else-start-next, else-time-start+then-time-start-2, else-time-start+else-time-start-2}

pub loop-i-init : goal.loop-i-init
loop-i-init c = record {
  set = subst (λ (xs : List ℕ). AreActiveBelow c.args.net.now c.args.starts.now c.args.time 0 xs) (sym c.new-active.ensures) (active-none c.args.net.now c.args.starts.now c.args.time);
  sums = loads-none c.args.net.now c.args.starts.now c.args.time;
  next = next-none c.args.starts.now c.args.time;
}

pub returns-clause-set : goal.returns-clause-set
returns-clause-set c = active-end c.args.net.now c.args.starts.now c.args.time c.loop-i.i c.loop-i.active (omega arith) c.loop-i.invariant.set

pub returns-clause-sums : goal.returns-clause-sums
returns-clause-sums c = loads-all c.args.net.now c.args.starts.now c.args.time c.loop-i.i c.loop-i.loads (omega arith) c.loop-i.invariant.sums

pub returns-clause-next : goal.returns-clause-next
returns-clause-next c = next-all c.args.starts.now c.args.time c.loop-i.i c.loop-i.next c.loop-i.invariant.next (omega (arith, c.requires))

pub with-loads-requires-clause-small : goal.with-loads-requires-clause-small
with-loads-requires-clause-small c k r =
    omega (arith, c.loop-i.invariant.sums k r, loads-small c.args.net.now c.args.starts.now c.args.time c.loop-i.i k c.job_count-i-end.ensures.sound (omega (arith, c.loop-i-test.true, c.job_count-i-end.ensures.count)) r)

pub loop-i-preserved : goal.loop-i-preserved
loop-i-preserved c =
    let start : ℕ = slice_index c.args.starts.now c.loop-i.i in
    let places : c.loop-i.i < length c.args.starts.now = omega (arith, c.loop-i-test.true, c.job_count-i-end.ensures.count, c.requires) in
    elim c.if-time-start.branch [
      | then-time-start+then-start-next w ↦
          let idle = not_yet c.args.net.now c.args.starts.now c.args.time c.loop-i.i (omega (arith, w.if-time-start.true)) in
          record {
            set = rw w.active-is (active-same c.args.net.now c.args.starts.now c.args.time c.loop-i.i c.loop-i.active c.loop-i.invariant.set idle);
            sums = rw w.loads-is (loads-same c.args.net.now c.args.starts.now c.args.time c.loop-i.i c.loop-i.loads c.loop-i.invariant.sums idle);
            next = next-sooner c.args.starts.now c.args.time c.loop-i.i c.loop-i.next c.loop-i.invariant.next _ places w.next-is (omega (arith, w.if-time-start.true)) (omega (arith, w.if-start-next.true));
          }
      | then-time-start+else-start-next w ↦
          let idle = not_yet c.args.net.now c.args.starts.now c.args.time c.loop-i.i (omega (arith, w.if-time-start.true)) in
          record {
            set = rw w.active-is (active-same c.args.net.now c.args.starts.now c.args.time c.loop-i.i c.loop-i.active c.loop-i.invariant.set idle);
            sums = rw w.loads-is (loads-same c.args.net.now c.args.starts.now c.args.time c.loop-i.i c.loop-i.loads c.loop-i.invariant.sums idle);
            next = next-same c.args.starts.now c.args.time c.loop-i.i c.loop-i.next c.loop-i.invariant.next _ w.next-is (λ _. omega (arith, w.if-start-next.false));
          }
      | else-time-start+then-time-start-2 w ↦
          let runs : IsActive c.args.net.now c.args.starts.now c.args.time c.loop-i.i = record { started = omega (arith, w.if-time-start.false); runs = omega (arith, w.if-time-start.false, w.if-time-start-2.true, w.duration.ensures) } in
          let same : c.loop-i.i + 1 - 1 ≡ c.loop-i.i = omega arith in
          record {
            set = rw w.active-is (active-more c.args.net.now c.args.starts.now c.args.time c.loop-i.i _ c.loop-i.active _ c.loop-i.invariant.set refl runs w.insert.ensures.inserted w.insert.ensures.jobs);
            sums = rw w.loads-is (loads-more c.args.net.now c.args.starts.now c.args.time c.loop-i.i c.loop-i.loads _ c.loop-i.invariant.sums runs (λ k r. omega (arith, w.with-loads.ensures.sums k r, ap (λ (q : ℕ). request c.args.net.now q k) same)));
            next = next-same c.args.starts.now c.args.time c.loop-i.i c.loop-i.next c.loop-i.invariant.next _ w.next-is (λ late. absurd (omega (arith, w.if-time-start.false)));
          }
      | else-time-start+else-time-start-2 w ↦
          let idle = over_by c.args.net.now c.args.starts.now c.args.time c.loop-i.i (omega (arith, w.if-time-start.false, w.if-time-start-2.false, w.duration.ensures)) in
          record {
            set = rw w.active-is (active-same c.args.net.now c.args.starts.now c.args.time c.loop-i.i c.loop-i.active c.loop-i.invariant.set idle);
            sums = rw w.loads-is (loads-same c.args.net.now c.args.starts.now c.args.time c.loop-i.i c.loop-i.loads c.loop-i.invariant.sums idle);
            next = next-same c.args.starts.now c.args.time c.loop-i.i c.loop-i.next c.loop-i.invariant.next _ w.next-is (λ late. absurd (omega (arith, w.if-time-start.false)));
          }
    ]
