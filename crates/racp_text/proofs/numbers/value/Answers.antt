use Rattle.racp_text.proofs.Digits.{capped-more}
use Rattle.racp_text.proofs.numbers.value.Goals as goal

pub loop-digit-preserved : goal.loop-digit-preserved
loop-digit-preserved c =
    capped-more c.args.digits.now c.loop-digit.digit-index c.loop-digit.number c.saturating_mul.result c.saturating_add-number.result c.loop-digit-test.true c.requires c.loop-digit.invariant c.saturating_mul.ensures c.saturating_add-number.ensures
