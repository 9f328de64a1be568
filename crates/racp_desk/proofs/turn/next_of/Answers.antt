use Rattle.std.proofs.Common.{◌∙◌, ap, subst, refl, arith}
use Rattle.racp_core.specs.Machine.{Machine}
use Rattle.racp_core.specs.Replies.{IsTaken}
use Rattle.racp_desk.proofs.turn.next_of.Goals as goal

pub take-requires-clause-turns : goal.take-requires-clause-turns
take-requires-clause-turns g c = omega (arith, c.if-pieces-limits.false, c.pieces.ensures.pieces, c.requires.turns)

pub ask_then_take-requires-clause-turns : goal.ask_then_take-requires-clause-turns
ask_then_take-requires-clause-turns g c =
    let nothing = subst (λ reply. IsTaken c.args.state.now.core c.args.seat reply c.take.new.self.core) c.in-Ok-Nothing.field-0-is c.in-Ok-Nothing.ensures.step in
    omega (arith, ap (λ (m : Machine). m.taken) nothing.3, c.if-pieces-limits.false, c.pieces.ensures.pieces, c.requires.turns)

pub take-requires-clause-parts : goal.take-requires-clause-parts
take-requires-clause-parts g c = c.requires.parts

pub returns-in-Ok-Piece-clause-parts : goal.returns-in-Ok-Piece-clause-parts
returns-in-Ok-Piece-clause-parts g c = c.take.ensures.parts

pub returns-in-Ok-Nothing-clause-formed : goal.returns-in-Ok-Nothing-clause-formed
returns-in-Ok-Nothing-clause-formed g c = c.ask_then_take.ensures.formed

pub returns-in-Ok-Nothing-clause-parts : goal.returns-in-Ok-Nothing-clause-parts
returns-in-Ok-Nothing-clause-parts g c = c.ask_then_take.ensures.parts ∙ c.take.ensures.parts

pub returns-in-Ok-Done-clause-formed : goal.returns-in-Ok-Done-clause-formed
returns-in-Ok-Done-clause-formed g c = tt

pub returns-in-Ok-Done-clause-parts : goal.returns-in-Ok-Done-clause-parts
returns-in-Ok-Done-clause-parts g c = c.take.ensures.parts

pub returns-in-Ok-Halted-clause-formed : goal.returns-in-Ok-Halted-clause-formed
returns-in-Ok-Halted-clause-formed g c = tt

pub returns-in-Ok-Halted-clause-parts : goal.returns-in-Ok-Halted-clause-parts
returns-in-Ok-Halted-clause-parts g c = c.take.ensures.parts

pub returns-in-Err-clause-formed : goal.returns-in-Err-clause-formed
returns-in-Err-clause-formed g c = c.give_up.ensures.formed

pub returns-in-Err-clause-parts : goal.returns-in-Err-clause-parts
returns-in-Err-clause-parts g c = c.give_up.ensures.parts ∙ c.take.ensures.parts
