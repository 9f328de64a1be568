use Rattle.std.proofs.Common.{refl, arith, ◌+◌, ◌∷◌, []}
use Rattle.std.proofs.lemmas.Result.{err_from_is_err_and}
use Rattle.racp_sm.specs.Parts.{request_row}
use Rattle.racp_text.proofs.lemmas.Rows.{reading_start, reading_step, reading_fault, reading_end}
use Rattle.racp_sm.proofs.Repeats.{at_title, same_twice, jobs_start, jobs_step, jobs_fault, jobs_end}
use Rattle.racp_sm.proofs.rows.read_jobs.Goals as goal

pub loop-i-init : goal.loop-i-init
loop-i-init c = (reading_start _ _ _ c.args.words.now.words _ c.new.ensures.items (jobs_start c.args.words.now.title c.args.resources c.args.count c.args.words.now.words), (refl, refl))

pub returns-in_err-job-clause-read : goal.returns-in_err-job-clause-read
returns-in_err-job-clause-read c =
    let fault = c.in_err-job.field-0.0 in
    let p = err_from_is_err_and c.from_residual.result c.from_residual.ensures.1 in
    rw (p.1, p.2) (reading_fault _ _ _ c.loop-i.words.words c.loop-i.i c.loop-i.jobs fault c.loop-i.invariant.0
    (jobs_fault c.args.words.now.title c.args.resources c.args.count c.loop-i.i c.loop-i.words.words fault c.loop-i-test.true (at_title (λ t. request_row t c.args.resources (c.loop-i.i + 1) c.loop-i.words.words) c.loop-i.invariant.1.0 c.in_err-job.ensures.read)))

pub loop-i-preserved : goal.loop-i-preserved
loop-i-preserved c =
    let row = c.in_ok-job.ensures.read in (
      reading_step _ _ _ c.loop-i.words.words c.read_job.new.words.words c.loop-i.i c.loop-i.jobs c.with_item-jobs.result (row.0 ∷ []) c.loop-i.invariant.0
          (jobs_step c.args.words.now.title c.args.resources c.args.count c.loop-i.i row.0 c.loop-i.words.words c.read_job.new.words.words c.loop-i-test.true (at_title (λ t. request_row t c.args.resources (c.loop-i.i + 1) c.loop-i.words.words) c.loop-i.invariant.1.0 row.1))
          (c.with_item-jobs.ensures row.0 row.2),
      same_twice c.args.words.now c.loop-i.words c.read_job.new.words c.loop-i.invariant.1 c.read_job.ensures.same,
    )

pub returns-clause-read : goal.returns-clause-read
returns-clause-read c =
    reading_end _ _ _ c.loop-i.words.words c.loop-i.i c.loop-i.jobs c.loop-i.invariant.0
    (jobs_end c.args.words.now.title c.args.resources c.args.count c.loop-i.i c.loop-i.words.words (omega (arith, c.loop-i-test.false)))
