use Rattle.std.proofs.Common.{◌<◌, arith}
use Rattle.racp_delay.specs.Scans.{AreTooMuch}
use Rattle.racp_delay.proofs.Scanning.{fine-then, fine-next, fine-ever, next-later}
use Rattle.racp_delay.proofs.scans.first_over_from.Goals as goal

pub returns-then-time : goal.returns-then-time
returns-then-time c =
    let none : AreTooMuch c.args.net.now c.args.capacities.now c.running_at-running.result.loads → ⊥ = λ more. cc (c.are_too_much.ensures.1 more, c.if-are_too_much.false) in
    fine-ever c.args.net.now c.args.capacities.now c.args.starts.now c.loop-running.time
    (fine-then c.args.net.now c.args.capacities.now c.args.starts.now c.running_at-running.result.loads c.loop-running.time c.loop-running.invariant.fine c.running_at-running.ensures.sums none)
    (λ i. omega (arith, c.type_inv.starts i, c.if-time.true))

pub loop-running-smaller : goal.loop-running-smaller
loop-running-smaller c =
    let later : c.loop-running.time < c.running_at-running.result.next = next-later c.args.starts.now c.loop-running.time c.running_at-running.result.next c.running_at-running.ensures.next (omega (arith, c.loop-running.invariant.small, c.if-time.false)) in
    omega (arith, c.loop-running.invariant.small, c.if-time.false)

pub loop-running-preserved : goal.loop-running-preserved
loop-running-preserved c =
    let none : AreTooMuch c.args.net.now c.args.capacities.now c.running_at-running.result.loads → ⊥ = λ more. cc (c.are_too_much.ensures.1 more, c.if-are_too_much.false) in
    record {
      fine = fine-next c.args.net.now c.args.capacities.now c.args.starts.now c.loop-running.time c.running_at-running.result.next c.requires.starts
          (fine-then c.args.net.now c.args.capacities.now c.args.starts.now c.running_at-running.result.loads c.loop-running.time c.loop-running.invariant.fine c.running_at-running.ensures.sums none)
          c.running_at-running.ensures.next;
      small = omega arith;
    }
