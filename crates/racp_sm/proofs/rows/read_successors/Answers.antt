use Rattle.std.proofs.Common.{refl, sym, arith, ◌∷◌, [], ℕ}
use Rattle.std.proofs.lemmas.Result.{err_from_is_err_and}
use Rattle.racp_sm.specs.Parts.{next_number}
use Rattle.racp_sm.specs.declared.fault.SmFaultKind.TheVariants.{BadSuccessor}
use Rattle.racp_text.proofs.lemmas.Rows.{reading_start, reading_step, reading_fault, reading_end}
use Rattle.racp_sm.proofs.Repeats.{at_title, same_twice, more_none, more_twice, pairs_start, pairs_step, pairs_fault, pairs_end}
use Rattle.racp_sm.proofs.rows.read_successors.Goals as goal

pub loop-init : goal.loop-init
loop-init c = (reading_start _ _ _ c.args.words.now.words _ (more_none _ c.args.arcs) (pairs_start c.args.words.now.title c.args.jobs c.args.job c.args.count c.args.words.now.words), (refl, refl))

pub returns-in_err-successor-clause-read : goal.returns-in_err-successor-clause-read
returns-in_err-successor-clause-read c =
    let fault = c.in_err-successor.field-0.0 in
    let p = err_from_is_err_and c.from_residual.result c.from_residual.ensures.1 in
    rw (p.1, p.2) (reading_fault _ _ _ c.loop.words.words c.loop.counter c.loop.kept fault c.loop.invariant.0
    (pairs_fault c.args.words.now.title c.args.jobs c.args.job c.args.count c.loop.counter c.loop.words.words fault c.loop-test.true (at_title (λ t. next_number t BadSuccessor 1 c.args.jobs c.loop.words.words) c.loop.invariant.1.0 (sym c.in_err-successor.ensures.number))))

pub loop-preserved : goal.loop-preserved
loop-preserved c =
    let pair : ℕ × ℕ = (c.args.job, c.in_ok-successor.successor) in (
      reading_step _ _ _ c.loop.words.words c.next_number.new.self.words c.loop.counter c.loop.kept c.with_item-kept.result (pair ∷ []) c.loop.invariant.0
          (pairs_step c.args.words.now.title c.args.jobs c.args.job c.args.count c.loop.counter c.in_ok-successor.successor c.loop.words.words c.next_number.new.self.words c.loop-test.true (at_title (λ t. next_number t BadSuccessor 1 c.args.jobs c.loop.words.words) c.loop.invariant.1.0 (sym c.in_ok-successor.ensures.number)))
          (λ things more. more_twice _ c.args.arcs c.loop.kept c.with_item-kept.result things (pair ∷ []) more (c.with_item-kept.ensures pair refl)),
      same_twice c.args.words.now c.loop.words c.next_number.new.self c.loop.invariant.1 c.next_number.ensures.same,
    )

pub returns-clause-read : goal.returns-clause-read
returns-clause-read c =
    reading_end _ _ _ c.loop.words.words c.loop.counter c.loop.kept c.loop.invariant.0
    (pairs_end c.args.words.now.title c.args.jobs c.args.job c.args.count c.loop.counter c.loop.words.words (omega (arith, c.loop-test.false)))
