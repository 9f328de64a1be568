use Rattle.std.proofs.Common.{◌∙◌}
use Rattle.std.proofs.lemmas.Result.{err_from_is_err_and}
use Rattle.racp_sm.proofs.Sections.{requests-none, requests-some, rows-fault, left-fault, left-none}
use Rattle.racp_sm.proofs.read.read_requests.Goals as goal

pub returns-in_err-words : goal.returns-in_err-words
returns-in_err-words c =
    let p = err_from_is_err_and c.from_residual.result c.from_residual.ensures.1 in
    rw (p.1, p.2) (requests-none c.args.resources c.args.count c.args.lines c.in_err-words.field-0.0 c.in_err-words.ensures)

pub returns-in_err-jobs : goal.returns-in_err-jobs
returns-in_err-jobs c =
    let fault = c.in_err-jobs.field-0.0 in
    let p = err_from_is_err_and c.from_residual-in_err-jobs.result c.from_residual-in_err-jobs.ensures.1 in
    rw (p.1, p.2) (requests-some c.args.resources c.args.count c.args.lines c.in_ok-words.words c.in_ok-words.ensures ∙ rows-fault _ _ fault c.in_err-jobs.ensures.read)

pub returns-in_err-end : goal.returns-in_err-end
returns-in_err-end c =
    let fault = c.in_err-end.field-0.0 in
    let rows = c.in_ok-jobs.ensures.read in
    let p = err_from_is_err_and c.from_residual-in_err-end.result c.from_residual-in_err-end.ensures.1 in
    rw (p.1, p.2) (requests-some c.args.resources c.args.count c.args.lines c.in_ok-words.words c.in_ok-words.ensures
    ∙ left-fault _ (λ jobs. jobs) rows.0 c.read_jobs.new.words.words c.read_jobs.new.words.after fault rows.1 c.in_err-end.ensures)

pub returns : goal.returns
returns c =
    let rows = c.in_ok-jobs.ensures.read in (
      rows.0,
      requests-some c.args.resources c.args.count c.args.lines c.in_ok-words.words c.in_ok-words.ensures
          ∙ left-none _ (λ jobs. jobs) rows.0 c.read_jobs.new.words.words c.read_jobs.new.words.after _ rows.1 c.in_ok-end.ensures,
      rows.2,
    )
