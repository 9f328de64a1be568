use Rattle.std.proofs.Common.{arith}
use Rattle.racp_sm.proofs.Naming.{naming_start, naming_stop, naming_step, naming_end}
use Rattle.racp_sm.proofs.cut.after_words.Goals as goal

pub loop-name-init : goal.loop-name-init
loop-name-init c = naming_start c.args.names.now c.args.bytes.now

pub returns-in_err-rest : goal.returns-in_err-rest
returns-in_err-rest c = rw c.from_residual.ensures (naming_stop c.args.names.now c.loop-name.name-index c.args.bytes.now c.loop-name.rest.now _ c.loop-name.invariant (omega (arith, c.loop-name-test.true)) c.in_err-rest.ensures)

pub loop-name-preserved : goal.loop-name-preserved
loop-name-preserved c = naming_step c.args.names.now c.loop-name.name-index c.args.bytes.now c.loop-name.rest.now c.in_ok-rest.rest.now _ c.loop-name.invariant (omega (arith, c.loop-name-test.true)) c.in_ok-rest.ensures

pub returns : goal.returns
returns c = naming_end c.args.names.now c.loop-name.name-index c.args.bytes.now c.loop-name.rest.now c.loop-name.invariant (omega (arith, c.loop-name-test.false))
