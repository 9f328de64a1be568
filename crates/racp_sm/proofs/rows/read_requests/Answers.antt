use Rattle.std.proofs.Common.{refl, sym, arith, ◌∷◌, []}
use Rattle.std.proofs.lemmas.Result.{err_from_is_err_and}
use Rattle.racp_sm.specs.Parts.{next_number}
use Rattle.racp_sm.specs.declared.fault.SmFaultKind.TheVariants.{Limit}
use Rattle.racp_text.proofs.lemmas.Rows.{reading_start, reading_step, reading_fault, reading_end}
use Rattle.racp_sm.proofs.Repeats.{at_title, same_twice, numbers_start, numbers_step, numbers_fault, numbers_end}
use Rattle.racp_sm.proofs.rows.read_requests.Goals as goal

pub loop-init : goal.loop-init
loop-init c = (reading_start _ _ _ c.args.words.now.words _ c.new.ensures.items (numbers_start c.args.words.now.title Limit 0 10000 c.args.resources c.args.words.now.words), (refl, refl))

pub returns-in_err-request-clause-read : goal.returns-in_err-request-clause-read
returns-in_err-request-clause-read c =
    let fault = c.in_err-request.field-0.0 in
    let p = err_from_is_err_and c.from_residual.result c.from_residual.ensures.1 in
    rw (p.1, p.2) (reading_fault _ _ _ c.loop.words.words c.loop.counter c.loop.requests fault c.loop.invariant.0
    (numbers_fault c.args.words.now.title Limit 0 10000 c.args.resources c.loop.counter c.loop.words.words fault c.loop-test.true (at_title (λ t. next_number t Limit 0 10000 c.loop.words.words) c.loop.invariant.1.0 (sym c.in_err-request.ensures.number))))

pub loop-preserved : goal.loop-preserved
loop-preserved c =
    let request = c.in_ok-request.request in (
      reading_step _ _ _ c.loop.words.words c.next_number.new.self.words c.loop.counter c.loop.requests c.with_item-requests.result (request ∷ []) c.loop.invariant.0
          (numbers_step c.args.words.now.title Limit 0 10000 c.args.resources c.loop.counter request c.loop.words.words c.next_number.new.self.words c.loop-test.true (at_title (λ t. next_number t Limit 0 10000 c.loop.words.words) c.loop.invariant.1.0 (sym c.in_ok-request.ensures.number)))
          (c.with_item-requests.ensures request refl),
      same_twice c.args.words.now c.loop.words c.next_number.new.self c.loop.invariant.1 c.next_number.ensures.same,
    )

pub returns-clause-read : goal.returns-clause-read
returns-clause-read c =
    reading_end _ _ _ c.loop.words.words c.loop.counter c.loop.requests c.loop.invariant.0
    (numbers_end c.args.words.now.title Limit 0 10000 c.args.resources c.loop.counter c.loop.words.words (omega (arith, c.loop-test.false)))
