use Rattle.std.proofs.Common.{◌≡◌, ◌∙◌, ◌++◌, ◌∷◌, [], length, refl, ap, subst, sym, arith, append-nil}
use Rattle.std.proofs.lemmas.Result.{IfOk-from_err}
use Rattle.racp_core.specs.Replies.{IsAsked}
use Rattle.racp_core.specs.Steps.{IsNextAsked}
use Rattle.racp_core.specs.declared.replies.Asked.{Asked as AskReply}
use Rattle.racp_desk.specs.declared.log.Entry.TheVariants.{Asked}
use Rattle.racp_desk.specs.Desk.{Desk}
use Rattle.racp_desk.proofs.Desks.{longer, desk_same, desk_asked, desk_ended}
use Rattle.racp_desk.proofs.state.State.ask.Goals as goal

pub invariant_of-self-in-Question : goal.invariant_of-self-in-Question
invariant_of-self-in-Question g c =
    let i = c.self.inside in
    let new = c.ask.new.self in
    let next = c.note_asked.new.self.entries in
    let is : next ≡ i.book.entries ++ Asked c.in-Question.index ∷ [] = cc (c.note_asked.ensures, c.make_room.ensures.entries) in
    let step : IsNextAsked i.core new c.in-Question.index = subst (λ (v : AskReply). IsAsked i.core v new) c.in-Question.is c.in_ok-asked.ensures.step in (
      let long = longer i.book.entries next (Asked c.in-Question.index) is in omega (arith, long, c.add.ensures.total, c.self.invariant.0),
      desk_asked g.M.RunNames.series i.core new i.book.entries next c.in-Question.index is c.ask.ensures.questions step c.self.invariant.1,
    )

pub invariant_of-self-in-End : goal.invariant_of-self-in-End
invariant_of-self-in-End g c =
    let i = c.self.inside in
    let step = subst (λ (v : AskReply). IsAsked i.core v c.ask.new.self) c.in-End.is c.in_ok-asked.ensures.step in (
      let e = c.make_room.ensures.entries in cc (e, c.self.invariant.0),
      desk_ended g.M.RunNames.series i.core c.ask.new.self i.book.entries c.make_room.new.self.entries c.make_room.ensures.entries step.3 c.self.invariant.1,
    )

pub add-requires : goal.add-requires
add-requires g c = c.requires

pub invariant_of-self : goal.invariant_of-self
invariant_of-self g c =
    let e = c.make_room.ensures.entries in
    (ap (λ es. length es) e ∙ c.self.invariant.0, desk_same g.M.RunNames.series c.self.inside.core c.self.inside.core c.self.inside.book.entries c.make_room.new.self.entries e refl c.self.invariant.1)

pub invariant_of-self-in-Enough : goal.invariant_of-self-in-Enough
invariant_of-self-in-Enough g c =
    let i = c.self.inside in
    let e = c.make_room.ensures.entries in
    let step = subst (λ (v : AskReply). IsAsked i.core v c.ask.new.self) c.in-Enough.is c.in_ok-asked.ensures.step in
    (ap (λ es. length es) e ∙ c.self.invariant.0, desk_same g.M.RunNames.series i.core c.ask.new.self i.book.entries c.make_room.new.self.entries e step.2 c.self.invariant.1)

pub invariant_of-self-in-Halted : goal.invariant_of-self-in-Halted
invariant_of-self-in-Halted g c =
    let i = c.self.inside in
    let e = c.make_room.ensures.entries in
    let step = subst (λ (v : AskReply). IsAsked i.core v c.ask.new.self) c.in-Halted.is c.in_ok-asked.ensures.step in
    (ap (λ es. length es) e ∙ c.self.invariant.0, desk_same g.M.RunNames.series i.core c.ask.new.self i.book.entries c.make_room.new.self.entries e step.1 c.self.invariant.1)

pub returns-in_err-make_room-clause-step : goal.returns-in_err-make_room-clause-step
returns-in_err-make_room-clause-step g c = IfOk-from_err c.from_residual.result _ c.from_residual.ensures.0

pub returns-in_err-make_room-clause-log : goal.returns-in_err-make_room-clause-log
returns-in_err-make_room-clause-log g c = IfOk-from_err c.from_residual.result _ c.from_residual.ensures.0

pub returns-in_err-make_room-clause-grown : goal.returns-in_err-make_room-clause-grown
returns-in_err-make_room-clause-grown g c = rw (sym c.self.view_is, c.make_room.ensures.entries) refl

pub returns-in_err-make_room-clause-parts : goal.returns-in_err-make_room-clause-parts
returns-in_err-make_room-clause-parts g c = refl

pub returns-in_err-asked-clause-step : goal.returns-in_err-asked-clause-step
returns-in_err-asked-clause-step g c = IfOk-from_err c.from_residual-in_err-asked.result _ c.from_residual-in_err-asked.ensures.0

pub returns-in_err-asked-clause-log : goal.returns-in_err-asked-clause-log
returns-in_err-asked-clause-log g c = IfOk-from_err c.from_residual-in_err-asked.result _ c.from_residual-in_err-asked.ensures.0

pub returns-in_err-asked-clause-grown : goal.returns-in_err-asked-clause-grown
returns-in_err-asked-clause-grown g c = rw (sym c.self.view_is, c.make_room.ensures.entries) refl

pub returns-in_err-asked-clause-parts : goal.returns-in_err-asked-clause-parts
returns-in_err-asked-clause-parts g c = refl

pub returns-in-Question-clause-step : goal.returns-in-Question-clause-step
returns-in-Question-clause-step g c = subst (λ (d : Desk). IsAsked d.core c.in_ok-asked.asked c.ask.new.self) c.self.view_is c.in_ok-asked.ensures.step

pub returns-in-Question-clause-log : goal.returns-in-Question-clause-log
returns-in-Question-clause-log g c =
    let is : c.note_asked.new.self.entries ≡ c.self.inside.book.entries ++ Asked c.in-Question.index ∷ [] = cc (c.note_asked.ensures, c.make_room.ensures.entries) in
    rw (c.in-Question.is, sym c.self.view_is) is

pub returns-in-Question-clause-grown : goal.returns-in-Question-clause-grown
returns-in-Question-clause-grown g c =
    let is : c.note_asked.new.self.entries ≡ c.self.inside.book.entries ++ Asked c.in-Question.index ∷ [] = cc (c.note_asked.ensures, c.make_room.ensures.entries) in
    let long = longer c.self.inside.book.entries c.note_asked.new.self.entries (Asked c.in-Question.index) is in
    rw (sym c.self.view_is) (omega (arith, long, c.add.ensures.amount))

pub returns-in-Question-clause-parts : goal.returns-in-Question-clause-parts
returns-in-Question-clause-parts g c = c.add.ensures.parts

pub returns-in-Question-clause-err : goal.returns-in-Question-clause-err
returns-in-Question-clause-err g c = tt

pub returns-in-End-clause-step : goal.returns-in-End-clause-step
returns-in-End-clause-step g c = subst (λ (d : Desk). IsAsked d.core c.in_ok-asked.asked c.ask.new.self) c.self.view_is c.in_ok-asked.ensures.step

pub returns-in-End-clause-log : goal.returns-in-End-clause-log
returns-in-End-clause-log g c = rw (c.in-End.is, sym c.self.view_is) (c.make_room.ensures.entries ∙ sym (append-nil c.self.inside.book.entries))

pub returns-in-End-clause-grown : goal.returns-in-End-clause-grown
returns-in-End-clause-grown g c = rw (sym c.self.view_is, c.make_room.ensures.entries) refl

pub returns-in-End-clause-parts : goal.returns-in-End-clause-parts
returns-in-End-clause-parts g c = refl

pub returns-in-End-clause-err : goal.returns-in-End-clause-err
returns-in-End-clause-err g c = tt

pub returns-in-Enough-clause-step : goal.returns-in-Enough-clause-step
returns-in-Enough-clause-step g c = subst (λ (d : Desk). IsAsked d.core c.in_ok-asked.asked c.ask.new.self) c.self.view_is c.in_ok-asked.ensures.step

pub returns-in-Enough-clause-log : goal.returns-in-Enough-clause-log
returns-in-Enough-clause-log g c = rw (c.in-Enough.is, sym c.self.view_is) (c.make_room.ensures.entries ∙ sym (append-nil c.self.inside.book.entries))

pub returns-in-Enough-clause-grown : goal.returns-in-Enough-clause-grown
returns-in-Enough-clause-grown g c = rw (sym c.self.view_is, c.make_room.ensures.entries) refl

pub returns-in-Enough-clause-parts : goal.returns-in-Enough-clause-parts
returns-in-Enough-clause-parts g c = refl

pub returns-in-Enough-clause-err : goal.returns-in-Enough-clause-err
returns-in-Enough-clause-err g c = tt

pub returns-in-Halted-clause-step : goal.returns-in-Halted-clause-step
returns-in-Halted-clause-step g c = subst (λ (d : Desk). IsAsked d.core c.in_ok-asked.asked c.ask.new.self) c.self.view_is c.in_ok-asked.ensures.step

pub returns-in-Halted-clause-log : goal.returns-in-Halted-clause-log
returns-in-Halted-clause-log g c = rw (c.in-Halted.is, sym c.self.view_is) (c.make_room.ensures.entries ∙ sym (append-nil c.self.inside.book.entries))

pub returns-in-Halted-clause-grown : goal.returns-in-Halted-clause-grown
returns-in-Halted-clause-grown g c = rw (sym c.self.view_is, c.make_room.ensures.entries) refl

pub returns-in-Halted-clause-parts : goal.returns-in-Halted-clause-parts
returns-in-Halted-clause-parts g c = refl

pub returns-in-Halted-clause-err : goal.returns-in-Halted-clause-err
returns-in-Halted-clause-err g c = tt
