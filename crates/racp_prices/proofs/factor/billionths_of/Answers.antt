use Rattle.racp_prices.proofs.Factors.{with_point, without_point}
use Rattle.racp_prices.proofs.factor.billionths_of.Goals as goal

pub returns-in-Some : goal.returns-in-Some
returns-in-Some c =
    with_point c.args.word.now c.in-Some.whole.now c.in-Some.part.now c.whole_billionths.result c.part_billionths.result c.sum_of.result c.in-Some.ensures c.whole_billionths.ensures.value c.part_billionths.ensures.value c.sum_of.ensures

pub returns-in-None : goal.returns-in-None
returns-in-None c = without_point c.args.word.now c.whole_billionths-in-None.result c.in-None.ensures c.whole_billionths-in-None.ensures.value
