use Rattle.std.proofs.Common.{arith}
use Rattle.racp_prices.proofs.Factors.{short_is, too_long, places, small}
use Rattle.racp_prices.proofs.factor.short_number.Goals as goal

pub returns-then-digits-gt-MOST_DIGITS-clause-value : goal.returns-then-digits-gt-MOST_DIGITS-clause-value
returns-then-digits-gt-MOST_DIGITS-clause-value c = too_long c.args.digits.now (omega (arith, c.if-digits-gt-MOST_DIGITS.true))

pub returns-clause-value : goal.returns-clause-value
returns-clause-value c = short_is c.args.digits.now c.number.result (omega (arith, c.if-digits-gt-MOST_DIGITS.false)) c.number.ensures

pub returns-clause-places : goal.returns-clause-places
returns-clause-places c = places c.args.digits.now c.number.result (omega (arith, c.if-digits-gt-MOST_DIGITS.false)) c.number.ensures

pub returns-clause-small : goal.returns-clause-small
returns-clause-small c = small c.args.digits.now c.number.result (omega (arith, c.if-digits-gt-MOST_DIGITS.false)) c.number.ensures
