use Rattle.std.proofs.Common.{refl}
use Rattle.racp_sm.proofs.Noting.{noting_start, noting_step, noting_end}
use Rattle.racp_sm.proofs.head.Head.read.Goals as goal

pub loop-line-init : goal.loop-line-init
loop-line-init c = noting_start c.args.lines.now _ refl

pub loop-line-preserved : goal.loop-line-preserved
loop-line-preserved c = noting_step c.args.lines.now c.loop-line.lines c.next_before.new.self c.in-Some.line c.loop-line.head c.note.new.self c.loop-line.invariant c.in-Some.ensures c.note.ensures

pub returns-clause-head : goal.returns-clause-head
returns-clause-head c = (noting_end c.args.lines.now c.loop-line.lines c.next_before.new.self c.loop-line.head c.loop-line.invariant c.in_default.ensures).0

pub returns-clause-rest : goal.returns-clause-rest
returns-clause-rest c = (noting_end c.args.lines.now c.loop-line.lines c.next_before.new.self c.loop-line.head c.loop-line.invariant c.in_default.ensures).1
