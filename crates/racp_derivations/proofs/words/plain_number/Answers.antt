use Rattle.std.proofs.Common.{sym, ◌∙◌}
use Rattle.racp_plan.proofs.lemmas.Digits.{zero_in_front, no_zero_in_front}
use Rattle.racp_derivations.proofs.words.plain_number.Goals as goal

pub returns-then-has_zero_in_front : goal.returns-then-has_zero_in_front
returns-then-has_zero_in_front c = zero_in_front c.args.word.now (sym c.has_zero_in_front.ensures ∙ c.if-has_zero_in_front.true)

pub returns : goal.returns
returns c = no_zero_in_front c.args.word.now c.number.result (sym c.has_zero_in_front.ensures ∙ c.if-has_zero_in_front.false) c.number.ensures
