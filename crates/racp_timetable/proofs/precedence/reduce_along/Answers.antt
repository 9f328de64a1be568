use Rattle.std.proofs.Common.{[]}
use Rattle.racp_timetable.proofs.Moving.{narrowed-same, narrowed-on, narrowed-no}
use Rattle.racp_timetable.proofs.precedence.reduce_along.Goals as goal

pub loop-k-init : goal.loop-k-init
loop-k-init c capacities from = narrowed-same c.args.net.now capacities from c.args.window.now c.requires

pub reduce_before-requires-clause-bounds : goal.reduce_before-requires-clause-bounds
reduce_before-requires-clause-bounds c = (c.loop-k.invariant [] 0).bounds

pub returns-then-not-reduce_before : goal.returns-then-not-reduce_before
returns-then-not-reduce_before c capacities from =
    narrowed-no c.args.net.now capacities from c.args.window.now c.loop-k.window c.reduce_before.new.window c.reduce_before.result (c.loop-k.invariant capacities from) (c.reduce_before.ensures capacities from) c.if-not-reduce_before.true

pub loop-k-preserved : goal.loop-k-preserved
loop-k-preserved c capacities from =
    narrowed-on c.args.net.now capacities from c.args.window.now c.loop-k.window c.reduce_before.new.window c.reduce_before.result (c.loop-k.invariant capacities from) (c.reduce_before.ensures capacities from) c.if-not-reduce_before.false
