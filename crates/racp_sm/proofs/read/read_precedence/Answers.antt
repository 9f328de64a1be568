use Rattle.std.proofs.Common.{◌∙◌}
use Rattle.std.proofs.lemmas.Result.{err_from_is_err_and}
use Rattle.racp_sm.proofs.Sections.{precedence-none, precedence-some, rows-fault, left-fault, left-none, ended-at}
use Rattle.racp_sm.proofs.read.read_precedence.Goals as goal

pub returns-in_err-words : goal.returns-in_err-words
returns-in_err-words c =
    let p = err_from_is_err_and c.from_residual.result c.from_residual.ensures.1 in
    rw (p.1, p.2) (precedence-none c.args.count c.args.lines c.in_err-words.field-0.0 c.in_err-words.ensures)

pub returns-in_err-arcs : goal.returns-in_err-arcs
returns-in_err-arcs c =
    let fault = c.in_err-arcs.field-0.0 in
    let p = err_from_is_err_and c.from_residual-in_err-arcs.result c.from_residual-in_err-arcs.ensures.1 in
    rw (p.1, p.2) (precedence-some c.args.count c.args.lines c.in_ok-words.words c.in_ok-words.ensures ∙ rows-fault _ _ fault c.in_err-arcs.ensures.read)

pub returns-in_err-after : goal.returns-in_err-after
returns-in_err-after c =
    let fault = c.in_err-after.field-0.0 in
    let rows = c.in_ok-arcs.ensures.read in
    let p = err_from_is_err_and c.from_residual-in_err-after.result c.from_residual-in_err-after.ensures.1 in
    rw (p.1, p.2) (precedence-some c.args.count c.args.lines c.in_ok-words.words c.in_ok-words.ensures
    ∙ left-fault _ (λ arcs. (arcs, c.in_ok-words.words.after)) rows.0 c.read_arcs.new.words.words c.read_arcs.new.words.after fault rows.1 c.in_err-after.ensures)

pub returns : goal.returns
returns c =
    let rows = c.in_ok-arcs.ensures.read in
    let after = ended-at c.read_arcs.new.words.words c.read_arcs.new.words.after c.in_ok-after.after c.in_ok-after.ensures ∙ c.read_arcs.ensures.same.1 in (
      (rows.0, c.in_ok-words.words.after),
      precedence-some c.args.count c.args.lines c.in_ok-words.words c.in_ok-words.ensures
          ∙ left-none _ (λ arcs. (arcs, c.in_ok-words.words.after)) rows.0 c.read_arcs.new.words.words c.read_arcs.new.words.after c.in_ok-after.after rows.1 c.in_ok-after.ensures,
      (rows.2, after),
    )
