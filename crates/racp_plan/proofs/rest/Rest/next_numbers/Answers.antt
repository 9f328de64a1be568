use Rattle.std.proofs.Common.{refl, arith, sym, ◌∷◌, []}
use Rattle.std.proofs.lemmas.Result.{err_from_is_err_and}
use Rattle.racp_text.proofs.lemmas.Rows.{reading_start, reading_step, reading_fault, reading_end}
use Rattle.racp_plan.proofs.Repeats.{lines_start, lines_step, lines_fault, lines_end}
use Rattle.racp_plan.proofs.rest.Rest.next_numbers.Goals as goal

pub loop-place-init : goal.loop-place-init
loop-place-init c = reading_start _ _ _ c.args.self.now _ c.new.ensures.items (lines_start c.args.word.now c.args.count c.args.self.now)

pub returns-in_err-number : goal.returns-in_err-number
returns-in_err-number c =
    let fault = c.in_err-number.field-0.0 in
    let p = err_from_is_err_and c.from_residual.result c.from_residual.ensures.1 in
    rw (p.1, p.2) (reading_fault _ _ _ c.loop-place.self c.loop-place.place c.loop-place.numbers fault c.loop-place.invariant
    (lines_fault c.args.word.now c.args.count c.loop-place.place c.loop-place.self fault c.loop-place-test.true (sym c.in_err-number.ensures)))

pub loop-place-preserved : goal.loop-place-preserved
loop-place-preserved c =
    let number = c.in_ok-number.number in
    reading_step _ _ _ c.loop-place.self c.next_number_for.new.self c.loop-place.place c.loop-place.numbers c.with_item-numbers.result (number ∷ []) c.loop-place.invariant
    (lines_step c.args.word.now c.args.count c.loop-place.place number c.loop-place.self c.next_number_for.new.self c.loop-place-test.true (sym c.in_ok-number.ensures))
    (c.with_item-numbers.ensures number refl)

pub returns : goal.returns
returns c =
    reading_end _ _ _ c.loop-place.self c.loop-place.place c.loop-place.numbers c.loop-place.invariant
    (lines_end c.args.word.now c.args.count c.loop-place.place c.loop-place.self (omega (arith, c.loop-place-test.false)))
