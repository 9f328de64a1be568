use Rattle.std.proofs.Common.{[]}
use Rattle.racp_timetable.proofs.Moving.{narrowed-same, narrowed-on, narrowed-no}
use Rattle.racp_timetable.proofs.precedence.raise_along.Goals as goal

pub loop-i-init : goal.loop-i-init
loop-i-init c capacities from = narrowed-same c.args.net.now capacities from c.args.window.now c.requires

pub raise_behind-requires-clause-bounds : goal.raise_behind-requires-clause-bounds
raise_behind-requires-clause-bounds c = (c.loop-i.invariant [] 0).bounds

pub returns-then-not-raise_behind : goal.returns-then-not-raise_behind
returns-then-not-raise_behind c capacities from =
    narrowed-no c.args.net.now capacities from c.args.window.now c.loop-i.window c.raise_behind.new.window c.raise_behind.result (c.loop-i.invariant capacities from) (c.raise_behind.ensures capacities from) c.if-not-raise_behind.true

pub loop-i-preserved : goal.loop-i-preserved
loop-i-preserved c capacities from =
    narrowed-on c.args.net.now capacities from c.args.window.now c.loop-i.window c.raise_behind.new.window c.raise_behind.result (c.loop-i.invariant capacities from) (c.raise_behind.ensures capacities from) c.if-not-raise_behind.false
