use Rattle.std.proofs.Common.{[], ◌∷◌, arith, refl, length-append}
use Rattle.racp_trees.proofs.Spelling.{no_vector_words, reading_first, reading_more, reading_stops, reading_ends, reading_fails}
use Rattle.racp_trees.proofs.reading.read_vector.Goals as goal

pub returns-in_default : goal.returns-in_default
returns-in_default c = no_vector_words c.args.count c.args.text.now c.requires c.in_default.ensures

pub loop-init : goal.loop-init
loop-init c = rw c.new-vector.ensures.items (reading_first c.args.count c.args.text.now c.in-Some.rest.now c.requires c.in-Some.ensures, refl)

pub returns-in_default-number_before : goal.returns-in_default-number_before
returns-in_default-number_before c =
    reading_stops c.args.count c.loop.counter c.args.text.now c.loop.vector.items c.loop.rest.now c.loop.invariant.0 c.loop.invariant.1 (omega (arith, c.loop-test.true)) c.in_default-number_before.ensures

pub loop-preserved : goal.loop-preserved
loop-preserved c =
    rw c.in_ok-push.ensures.items (
      reading_more c.args.count c.loop.counter c.args.text.now c.loop.vector.items c.loop.rest.now c.loop.invariant.0 c.loop.invariant.1 c.in-Some-number_before.number c.in-Some-number_before.more.now (omega (arith, c.loop-test.true)) c.in-Some-number_before.ensures.0 c.in-Some-number_before.ensures.1,
      omega (arith, length-append c.loop.vector.items (c.in-Some-number_before.number ∷ []), c.loop.invariant.1),
    )

pub returns-in_default-number_before-2 : goal.returns-in_default-number_before-2
returns-in_default-number_before-2 c =
    reading_fails c.args.count c.loop.counter c.args.text.now c.loop.vector.items c.loop.rest.now c.loop.invariant.0 c.loop.invariant.1 (omega (arith, c.loop-test.false, c.loop.auto.counter-end, c.requires)) c.in_default-number_before-2.ensures

pub returns : goal.returns
returns c =
    rw c.in_ok-push-2.ensures.items
    (reading_ends c.args.count c.loop.counter c.args.text.now c.loop.vector.items c.loop.rest.now c.loop.invariant.0 c.loop.invariant.1 c.in-Some-number_before-2.number c.in-Some-number_before-2.more.now (omega (arith, c.loop-test.false, c.loop.auto.counter-end, c.requires)) c.in-Some-number_before-2.ensures.0 c.in-Some-number_before-2.ensures.1)
