use Rattle.std.proofs.Common.{arith, sym, inr}
use Rattle.std.proofs.lemmas.Result.{err_from_is_err_and}
use Rattle.racp_prices.proofs.Lists.{read_start, read_step, read_fault, read_end}
use Rattle.racp_prices.proofs.numbers.all_within.Goals as goal

pub loop-value-init : goal.loop-value-init
loop-value-init c = rw c.in_ok-numbers.ensures.items (read_start c.args.most c.args.items.now)

pub returns-in_err-number : goal.returns-in_err-number
returns-in_err-number c =
    let p = err_from_is_err_and c.from_residual-in_err-number.result c.from_residual-in_err-number.ensures.1 in
    rw (p.1, p.2) (inr (read_fault c.args.most c.args.items.now c.loop-value.value-index c.value-item.result c.loop-value.numbers.items c.in_err-number.field-0.0 c.loop-value-test.true c.loop-value.invariant (rw (← c.value-item.is) (sym c.in_err-number.ensures))))

pub loop-value-preserved : goal.loop-value-preserved
loop-value-preserved c =
    rw c.in_ok-push.ensures.items (read_step c.args.most c.args.items.now c.loop-value.value-index c.value-item.result c.loop-value.numbers.items c.in_ok-number.field-0 c.loop-value-test.true c.loop-value.invariant (rw (← c.value-item.is) (sym c.in_ok-number.ensures)))

pub returns : goal.returns
returns c = read_end c.args.most c.args.items.now c.loop-value.value-index c.loop-value.numbers.items (omega (arith, c.loop-value-test.false)) c.loop-value.invariant
