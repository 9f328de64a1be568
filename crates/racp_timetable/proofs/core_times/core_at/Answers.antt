use Rattle.std.proofs.Common.{rules, ◌<◌, ◌≤◌, replicate, arith}
use Rattle.racp_model.specs.CoreTimes.{IsCoreTime}
use Rattle.racp_model.proofs.lemmas.Zeros.{zeros}
use Rattle.racp_timetable.proofs.Cores.{core-none, core-more, core-same, loads-small}
use Rattle.racp_timetable.proofs.core_times.core_at.Goals as goal
use Rattle.racp_timetable.proofs.core_times.core_at.Goals.{then-upper-time+then-time-end, else-upper-time, else-upper-time-via-then-upper-time+else-time-end, else-upper-time-via-else-upper-time}

pub loop-i-init : goal.loop-i-init
loop-i-init c = core-none c.args.net.now c.args.window.now c.args.time c.args.next (replicate 16 0) c.requires.later (zeros 16)

pub add_to-requires-clause-small : goal.add_to-requires-clause-small
add_to-requires-clause-small c k r =
    omega (arith, c.loop-i.invariant.sums k r, loads-small c.args.net.now c.args.window.now c.args.time c.loop-i.i k c.job_count-i-end.ensures.sound (omega (arith, c.loop-i-test.true, c.job_count-i-end.ensures.count)) r)

pub loop-i-preserved : goal.loop-i-preserved
loop-i-preserved c =
    let p = c.args.net.now in
    let w = c.args.window.now in
    let h = c.loop-i.invariant in
    elim c.if-upper-time.branch [
      | then-upper-time+then-time-end w' ↦
          let at : IsCoreTime p w c.args.time c.loop-i.i = record {
            started = omega (arith, w'.if-upper-time.true, c.upper.ensures.bound);
            runs = omega (arith, w'.if-time-end.true, c.end_of-end.ensures, c.lower.ensures.bound);
          } in
          let less : w'.min-until.result ≤ c.loop-i.until = search rules in
          let within : w'.min-until.result ≤ c.end_of-end.result = search rules in
          let behind : c.args.time < w'.min-until.result = search rules in
          core-more p w c.args.time c.loop-i.i c.loop-i.until c.loop-i.loads h _ _ at (omega (arith, w'.until-is)) (omega (arith, w'.until-is, c.end_of-end.ensures, c.lower.ensures.bound)) (omega (arith, w'.until-is)) (rw w'.loads-is w'.add_to.ensures)
      | else-upper-time w' ↦
          let apart : IsCoreTime p w c.args.time c.loop-i.i → ⊥ = λ at. elim w'.else-upper-time.branch [
            | else-upper-time-via-then-upper-time+else-time-end v ↦ omega (arith, v.if-time-end.false, at.runs, c.end_of-end.ensures, c.lower.ensures.bound)
            | else-upper-time-via-else-upper-time v ↦ omega (arith, v.if-upper-time.false, at.started, c.upper.ensures.bound)
          ] in
          rw (w'.until-is, w'.loads-is) (core-same p w c.args.time c.loop-i.i c.loop-i.until c.loop-i.loads h apart)
    ]
