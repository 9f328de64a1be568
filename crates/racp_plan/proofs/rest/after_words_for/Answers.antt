use Rattle.std.proofs.Common.{◌∙◌}
use Rattle.racp_plan.proofs.lemmas.Fronts.{own_words-some, own_words-none}
use Rattle.racp_plan.proofs.rest.after_words_for.Goals as goal

pub returns-in_err-after_words : goal.returns-in_err-after_words
returns-in_err-after_words c = rw c.from_residual.ensures (own_words-none c.args.word.now c.args.line.now c.args.number c.in_err-after_words.ensures)

pub returns : goal.returns
returns c = c.after_number.ensures ∙ own_words-some c.args.word.now c.args.line.now c.in_ok-after_words.field-0.now c.args.number c.in_ok-after_words.ensures
