use Rattle.std.proofs.Common.{◌∙◌}
use Rattle.racp_sm.proofs.Cutting.{some_length, front_word, only_word}
use Rattle.racp_sm.proofs.cut.first_word.Goals as goal

pub returns-then-not-is_empty : goal.returns-then-not-is_empty
returns-then-not-is_empty c =
    c.loop-front.invariant ∙ front_word c.loop-front.rest.now c.in-Some.front.now c.in-Some.after.now c.in-Some.ensures (some_length _ c.if-not-is_empty.ensures)

pub returns : goal.returns
returns c = c.loop-front.invariant ∙ only_word c.loop-front.rest.now c.in_default.ensures (some_length _ c.if-is_empty.ensures)
