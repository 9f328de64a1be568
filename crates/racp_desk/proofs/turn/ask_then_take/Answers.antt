use Rattle.std.proofs.Common.{◌∙◌, refl, arith}
use Rattle.racp_desk.proofs.turn.ask_then_take.Goals as goal

pub returns-then-not-may_ask-clause-formed : goal.returns-then-not-may_ask-clause-formed
returns-then-not-may_ask-clause-formed g c = tt

pub returns-then-not-may_ask-clause-parts : goal.returns-then-not-may_ask-clause-parts
returns-then-not-may_ask-clause-parts g c = refl

pub returns-then-is_err-clause-formed : goal.returns-then-is_err-clause-formed
returns-then-is_err-clause-formed g c = c.give_up.ensures.formed

pub returns-then-is_err-clause-parts : goal.returns-then-is_err-clause-parts
returns-then-is_err-clause-parts g c = c.give_up.ensures.parts ∙ c.ask.ensures.parts

pub take-requires-clause-parts : goal.take-requires-clause-parts
take-requires-clause-parts g c = omega (arith, c.ask.ensures.parts, c.requires.parts)

pub take-requires-clause-turns : goal.take-requires-clause-turns
take-requires-clause-turns g c = omega (arith, c.ask.ensures.taken, c.requires.turns)

pub returns-in-Ok-Piece-clause-parts : goal.returns-in-Ok-Piece-clause-parts
returns-in-Ok-Piece-clause-parts g c = c.take.ensures.parts ∙ c.ask.ensures.parts

pub returns-in-Ok-Nothing-clause-formed : goal.returns-in-Ok-Nothing-clause-formed
returns-in-Ok-Nothing-clause-formed g c = tt

pub returns-in-Ok-Nothing-clause-parts : goal.returns-in-Ok-Nothing-clause-parts
returns-in-Ok-Nothing-clause-parts g c = c.take.ensures.parts ∙ c.ask.ensures.parts

pub returns-in-Ok-Done-clause-formed : goal.returns-in-Ok-Done-clause-formed
returns-in-Ok-Done-clause-formed g c = tt

pub returns-in-Ok-Done-clause-parts : goal.returns-in-Ok-Done-clause-parts
returns-in-Ok-Done-clause-parts g c = c.take.ensures.parts ∙ c.ask.ensures.parts

pub returns-in-Ok-Halted-clause-formed : goal.returns-in-Ok-Halted-clause-formed
returns-in-Ok-Halted-clause-formed g c = tt

pub returns-in-Ok-Halted-clause-parts : goal.returns-in-Ok-Halted-clause-parts
returns-in-Ok-Halted-clause-parts g c = c.take.ensures.parts ∙ c.ask.ensures.parts

pub returns-in-Err-clause-formed : goal.returns-in-Err-clause-formed
returns-in-Err-clause-formed g c = c.give_up-in-Err.ensures.formed

pub returns-in-Err-clause-parts : goal.returns-in-Err-clause-parts
returns-in-Err-clause-parts g c = c.give_up-in-Err.ensures.parts ∙ c.take.ensures.parts ∙ c.ask.ensures.parts
