use Rattle.std.proofs.Common.{refl, arith, ◌+◌}
use Rattle.std.proofs.lemmas.Result.{err_from_is_err_and}
use Rattle.racp_sm.specs.Parts.{successor_row}
use Rattle.racp_text.proofs.lemmas.Rows.{reading_start, reading_step, reading_fault, reading_end}
use Rattle.racp_sm.proofs.Repeats.{at_title, same_twice, arcs_start, arcs_step, arcs_fault, arcs_end}
use Rattle.racp_sm.proofs.rows.read_arcs.Goals as goal

pub loop-i-init : goal.loop-i-init
loop-i-init c = (reading_start _ _ _ c.args.words.now.words _ c.new.ensures.items (arcs_start c.args.words.now.title c.args.jobs c.args.words.now.words), (refl, refl))

pub returns-in_err-arcs-clause-read : goal.returns-in_err-arcs-clause-read
returns-in_err-arcs-clause-read c =
    let fault = c.in_err-arcs.field-0.0 in
    let p = err_from_is_err_and c.from_residual.result c.from_residual.ensures.1 in
    rw (p.1, p.2) (reading_fault _ _ _ c.loop-i.words.words c.loop-i.i c.loop-i.arcs fault c.loop-i.invariant.0
    (arcs_fault c.args.words.now.title c.args.jobs c.loop-i.i c.loop-i.words.words fault c.loop-i-test.true (at_title (λ t. successor_row t c.args.jobs (c.loop-i.i + 1) c.loop-i.words.words) c.loop-i.invariant.1.0 c.in_err-arcs.ensures.read)))

pub loop-i-preserved : goal.loop-i-preserved
loop-i-preserved c =
    let row = c.in_ok-arcs.ensures.read in (
      reading_step _ _ _ c.loop-i.words.words c.read_successor_row.new.words.words c.loop-i.i c.loop-i.arcs c.in_ok-arcs.arcs row.0 c.loop-i.invariant.0
          (arcs_step c.args.words.now.title c.args.jobs c.loop-i.i row.0 c.loop-i.words.words c.read_successor_row.new.words.words c.loop-i-test.true (at_title (λ t. successor_row t c.args.jobs (c.loop-i.i + 1) c.loop-i.words.words) c.loop-i.invariant.1.0 row.1))
          row.2,
      same_twice c.args.words.now c.loop-i.words c.read_successor_row.new.words c.loop-i.invariant.1 c.read_successor_row.ensures.same,
    )

pub returns-clause-read : goal.returns-clause-read
returns-clause-read c =
    reading_end _ _ _ c.loop-i.words.words c.loop-i.i c.loop-i.arcs c.loop-i.invariant.0
    (arcs_end c.args.words.now.title c.args.jobs c.loop-i.i c.loop-i.words.words (omega (arith, c.loop-i-test.false)))
