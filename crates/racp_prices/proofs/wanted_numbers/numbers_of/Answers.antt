use Rattle.racp_prices.proofs.Commas.{read_step, read_fault, read_end, read_end_fault}
use Rattle.racp_prices.proofs.wanted_numbers.numbers_of.Goals as goal

pub returns-in_default-number_of : goal.returns-in_default-number_of
returns-in_default-number_of c =
    read_fault c.args.word.now c.loop-front.numbers.items c.loop-front.rest.now c.in-Some.front.now c.in-Some.back.now c.loop-front.invariant c.in-Some.ensures c.in_default-number_of.ensures

pub loop-front-preserved : goal.loop-front-preserved
loop-front-preserved c =
    rw c.in_ok-push.ensures.items
    (read_step c.args.word.now c.loop-front.numbers.items c.loop-front.rest.now c.in-Some.front.now c.in-Some.back.now c.in-Some-number_of.number c.loop-front.invariant c.in-Some.ensures c.in-Some-number_of.ensures)

pub returns-in_default-number_of-2 : goal.returns-in_default-number_of-2
returns-in_default-number_of-2 c =
    read_end_fault c.args.word.now c.loop-front.numbers.items c.loop-front.rest.now c.loop-front.invariant c.in_default.ensures c.in_default-number_of-2.ensures

pub returns : goal.returns
returns c =
    rw c.in_ok-push-2.ensures.items
    (read_end c.args.word.now c.loop-front.numbers.items c.loop-front.rest.now c.in-Some-number_of-2.number c.loop-front.invariant c.in_default.ensures c.in-Some-number_of-2.ensures)
