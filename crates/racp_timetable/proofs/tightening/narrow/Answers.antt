use Rattle.std.proofs.Common.{subst, sym}
use Rattle.racp_timetable.specs.Narrowing.{IsNarrowed}
use Rattle.racp_timetable.proofs.Moving.{narrowed-on, narrowed-no}
use Rattle.racp_timetable.proofs.tightening.narrow.Goals as goal
use Rattle.racp_timetable.proofs.tightening.narrow.Goals.{then-not-narrow_between-via-then-not-narrow_between, then-not-narrow_between-via-else-not-narrow_between+then-not-settle-2}

pub returns-then-not-narrow_between : goal.returns-then-not-narrow_between
returns-then-not-narrow_between c =
    let p = c.args.net.now in
    let capacities = c.args.capacities.now in
    let start : IsNarrowed p capacities c.args.from c.args.window.now c.watch.new.self = subst (IsNarrowed p capacities c.args.from c.args.window.now) (sym c.watch.ensures) c.rounds.invariant in
    elim c.then-not-narrow_between.branch [
      | then-not-narrow_between-via-then-not-narrow_between w ↦
          narrowed-no p capacities c.args.from c.args.window.now c.watch.new.self c.narrow_between.new.window c.narrow_between.result start c.narrow_between.ensures w.if-not-narrow_between.true
      | then-not-narrow_between-via-else-not-narrow_between+then-not-settle-2 w ↦
          narrowed-no p capacities c.args.from c.args.window.now c.narrow_between.new.window w.settle-else-not-narrow_between.new.window w.settle-else-not-narrow_between.result
          (narrowed-on p capacities c.args.from c.args.window.now c.watch.new.self c.narrow_between.new.window c.narrow_between.result start c.narrow_between.ensures w.if-not-narrow_between.false)
          (w.settle-else-not-narrow_between.ensures capacities c.args.from) w.if-not-settle-2.true
    ]

pub returns-then-not-has_moved : goal.returns-then-not-has_moved
returns-then-not-has_moved c =
    let p = c.args.net.now in
    let capacities = c.args.capacities.now in
    let start : IsNarrowed p capacities c.args.from c.args.window.now c.watch.new.self = subst (IsNarrowed p capacities c.args.from c.args.window.now) (sym c.watch.ensures) c.rounds.invariant in
    narrowed-on p capacities c.args.from c.args.window.now c.narrow_between.new.window c.settle-else-not-narrow_between.new.window c.settle-else-not-narrow_between.result
    (narrowed-on p capacities c.args.from c.args.window.now c.watch.new.self c.narrow_between.new.window c.narrow_between.result start c.narrow_between.ensures c.if-not-narrow_between.false)
    (c.settle-else-not-narrow_between.ensures capacities c.args.from) c.if-not-settle-2.false

pub rounds-preserved : goal.rounds-preserved
rounds-preserved c =
    let p = c.args.net.now in
    let capacities = c.args.capacities.now in
    let start : IsNarrowed p capacities c.args.from c.args.window.now c.watch.new.self = subst (IsNarrowed p capacities c.args.from c.args.window.now) (sym c.watch.ensures) c.rounds.invariant in
    narrowed-on p capacities c.args.from c.args.window.now c.narrow_between.new.window c.settle-else-not-narrow_between.new.window c.settle-else-not-narrow_between.result
    (narrowed-on p capacities c.args.from c.args.window.now c.watch.new.self c.narrow_between.new.window c.narrow_between.result start c.narrow_between.ensures c.if-not-narrow_between.false)
    (c.settle-else-not-narrow_between.ensures capacities c.args.from) c.if-not-settle-2.false
