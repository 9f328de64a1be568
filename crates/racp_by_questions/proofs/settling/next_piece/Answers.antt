use Rattle.std.proofs.Common.{◌∙◌, ◌<◌, arith, subst}
use Rattle.racp_core.specs.declared.replies.Asked.{Asked}
use Rattle.racp_search.specs.Truth.{SearchPiece}
use Rattle.racp_core.specs.declared.replies.Reply.{Reply}
use Rattle.racp_core.specs.Steps.{IsNextAsked}
use Rattle.racp_core.specs.Replies.{IsAsked, IsTaken, IsSmallPlace, IsFormedReply}
use Rattle.racp_by_questions.proofs.Working.{at_work, fewer, ended, mid_numbered, mid_running, not_none, not_settled}
use Rattle.std.proofs.lemmas.Result.{err_from_is_err_and}
use Rattle.racp_by_questions.proofs.settling.next_piece.Goals as goal

pub returns-clause-next : goal.returns-clause-next
returns-clause-next g c =
    let old = c.args.core.now in
    let mid = c.ask.new.self in
    let new = c.take.new.self in
    let index = c.in-Question.field-0 in
    let piece = c.in-Piece.piece in
    let asked : IsNextAsked old mid index = subst (λ (reply : Asked). IsAsked old reply mid) c.in-Question.is c.in_ok-ask.ensures.step in
    let taken = subst (λ (reply : Reply SearchPiece). IsTaken mid 0 reply new) c.in-Piece.is c.in_ok-piece.ensures.step in
    let formed = subst (λ (reply : Reply SearchPiece). IsFormedReply g.N.OfNetwork.network reply) c.in-Piece.is c.in_ok-piece.ensures.formed in
    (at_work old mid index c.requires asked new 0 piece taken.2, formed, fewer old mid index c.requires asked new 0 piece taken.2)

pub returns-in_err-ask-clause-questions : goal.returns-in_err-ask-clause-questions
returns-in_err-ask-clause-questions g c = rw ((err_from_is_err_and c.from_residual.result c.from_residual.ensures.1).1) tt

pub returns-in_err-ask-clause-next : goal.returns-in_err-ask-clause-next
returns-in_err-ask-clause-next g c = rw ((err_from_is_err_and c.from_residual.result c.from_residual.ensures.1).1) tt

pub returns-in-End-clause-questions : goal.returns-in-End-clause-questions
returns-in-End-clause-questions g c = c.in_ok-ask.ensures.questions

pub unreachable-requires : goal.unreachable-requires
unreachable-requires g c = (subst (λ (reply : Asked). IsAsked c.args.core.now reply c.ask.new.self) c.in-Enough.is c.in_ok-ask.ensures.step).1 c.requires.unknown

pub unreachable-requires-in-Halted : goal.unreachable-requires-in-Halted
unreachable-requires-in-Halted g c =
    let halted = subst (λ (reply : Asked). IsAsked c.args.core.now reply c.ask.new.self) c.in-Halted.is c.in_ok-ask.ensures.step in
    cc (halted.0, c.requires.running)

pub returns-in_err-piece-clause-questions : goal.returns-in_err-piece-clause-questions
returns-in_err-piece-clause-questions g c = rw ((err_from_is_err_and c.from_residual-in_err-piece.result c.from_residual-in_err-piece.ensures.1).1) tt

pub returns-in_err-piece-clause-next : goal.returns-in_err-piece-clause-next
returns-in_err-piece-clause-next g c = rw ((err_from_is_err_and c.from_residual-in_err-piece.result c.from_residual-in_err-piece.ensures.1).1) tt

pub returns-clause-questions : goal.returns-clause-questions
returns-clause-questions g c = c.in_ok-piece.ensures.questions ∙ c.in_ok-ask.ensures.questions

pub returns-in-End-clause-next : goal.returns-in-End-clause-next
returns-in-End-clause-next g c =
    let end = subst (λ (reply : Asked). IsAsked c.args.core.now reply c.ask.new.self) c.in-End.is c.in_ok-ask.ensures.step in
    ended c.args.core.now c.ask.new.self c.requires end.3

pub take-requires : goal.take-requires
take-requires g c =
    let asked : IsNextAsked c.args.core.now c.ask.new.self c.in-Question.field-0 = subst (λ (reply : Asked). IsAsked c.args.core.now reply c.ask.new.self) c.in-Question.is c.in_ok-ask.ensures.step in
    let small : c.in-Question.field-0 < 18446744073709551615 = subst IsSmallPlace c.in-Question.is c.in_ok-ask.ensures.small in
    let numbered = mid_numbered c.args.core.now c.ask.new.self c.in-Question.field-0 c.requires asked in
    omega (arith, small, numbered)

pub unreachable-requires-in-Nothing : goal.unreachable-requires-in-Nothing
unreachable-requires-in-Nothing g c =
    let asked : IsNextAsked c.args.core.now c.ask.new.self c.in-Question.field-0 = subst (λ (reply : Asked). IsAsked c.args.core.now reply c.ask.new.self) c.in-Question.is c.in_ok-ask.ensures.step in
    let taken = subst (λ (reply : Reply SearchPiece). IsTaken c.ask.new.self 0 reply c.take.new.self) c.in-Nothing.is c.in_ok-piece.ensures.step in
    not_none c.args.core.now c.ask.new.self c.in-Question.field-0 c.requires asked taken.2

pub unreachable-requires-in-Done : goal.unreachable-requires-in-Done
unreachable-requires-in-Done g c =
    let asked : IsNextAsked c.args.core.now c.ask.new.self c.in-Question.field-0 = subst (λ (reply : Asked). IsAsked c.args.core.now reply c.ask.new.self) c.in-Question.is c.in_ok-ask.ensures.step in
    let taken = subst (λ (reply : Reply SearchPiece). IsTaken c.ask.new.self 0 reply c.take.new.self) c.in-Done.is c.in_ok-piece.ensures.step in
    not_settled c.args.core.now c.ask.new.self c.in-Question.field-0 c.requires asked taken.0

pub unreachable-requires-in-Halted-2 : goal.unreachable-requires-in-Halted-2
unreachable-requires-in-Halted-2 g c =
    let asked : IsNextAsked c.args.core.now c.ask.new.self c.in-Question.field-0 = subst (λ (reply : Asked). IsAsked c.args.core.now reply c.ask.new.self) c.in-Question.is c.in_ok-ask.ensures.step in
    let taken = subst (λ (reply : Reply SearchPiece). IsTaken c.ask.new.self 0 reply c.take.new.self) c.in-Halted-2.is c.in_ok-piece.ensures.step in
    cc (taken.1, mid_running c.args.core.now c.ask.new.self c.in-Question.field-0 c.requires asked)
