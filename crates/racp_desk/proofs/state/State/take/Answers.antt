use Rattle.std.proofs.Common.{◌≡◌, ◌∙◌, ◌<◌, ◌++◌, ◌∷◌, [], length, refl, ap, subst, sym, arith, append-nil}
use Rattle.racp_search.specs.Truth.{SearchPiece}
use Rattle.racp_core.specs.Replies.{IsTaken}
use Rattle.racp_core.specs.declared.replies.Reply.{Reply}
use Rattle.racp_desk.specs.declared.log.Entry.TheVariants.{Taken}
use Rattle.racp_desk.specs.Desk.{Desk}
use Rattle.racp_desk.proofs.Desks.{longer, desk_same, desk_taken}
use Rattle.racp_desk.proofs.state.State.take.Goals.{in-Piece, in-Nothing, in-Done, in-Halted}
use Rattle.racp_desk.proofs.state.State.take.Goals as goal

pub take-requires : goal.take-requires
take-requires g c = (let few = c.make_room.ensures.few in let t = subst (λ (d : Desk). d.core.taken < g.M.Rules.turns) (sym c.self.view_is) c.requires.turns in omega (arith, few, t))

pub invariant_of-self-in-Piece : goal.invariant_of-self-in-Piece
invariant_of-self-in-Piece g c =
    let i = c.self.inside in
    let new = c.take.new.self in
    let next = c.note_taken.new.self.entries in
    let piece = c.in-Piece.piece in
    let is : next ≡ i.book.entries ++ Taken c.args.seat piece.number piece.index ∷ [] = cc (c.note_taken.ensures, c.make_room.ensures.entries, c.number.ensures, c.index.ensures) in
    let step = subst (λ (v : Reply SearchPiece). IsTaken i.core c.args.seat v new) c.in-Piece.is c.in_ok-reply.ensures.step in (
      let long = longer i.book.entries next (Taken c.args.seat piece.number piece.index) is in omega (arith, long, c.add.ensures.total, c.self.invariant.0),
      desk_taken g.M.RunNames.series i.core new c.args.seat i.book.entries next piece is c.take.ensures.questions step.2 c.self.invariant.1,
    )

pub add-requires : goal.add-requires
add-requires g c = c.requires.parts

pub invariant_of-self : goal.invariant_of-self
invariant_of-self g c =
    let e = c.make_room.ensures.entries in
    (ap (λ es. length es) e ∙ c.self.invariant.0, desk_same g.M.RunNames.series c.self.inside.core c.self.inside.core c.self.inside.book.entries c.make_room.new.self.entries e refl c.self.invariant.1)

pub invariant_of-self-in-Nothing : goal.invariant_of-self-in-Nothing
invariant_of-self-in-Nothing g c =
    let i = c.self.inside in
    let e = c.make_room.ensures.entries in
    let step = subst (λ (v : Reply SearchPiece). IsTaken i.core c.args.seat v c.take.new.self) c.in-Nothing.is c.in_ok-reply.ensures.step in
    (ap (λ es. length es) e ∙ c.self.invariant.0, desk_same g.M.RunNames.series i.core c.take.new.self i.book.entries c.make_room.new.self.entries e step.3 c.self.invariant.1)

pub invariant_of-self-in-Done : goal.invariant_of-self-in-Done
invariant_of-self-in-Done g c =
    let i = c.self.inside in
    let e = c.make_room.ensures.entries in
    let step = subst (λ (v : Reply SearchPiece). IsTaken i.core c.args.seat v c.take.new.self) c.in-Done.is c.in_ok-reply.ensures.step in
    (ap (λ es. length es) e ∙ c.self.invariant.0, desk_same g.M.RunNames.series i.core c.take.new.self i.book.entries c.make_room.new.self.entries e step.1 c.self.invariant.1)

pub invariant_of-self-in-Halted : goal.invariant_of-self-in-Halted
invariant_of-self-in-Halted g c =
    let i = c.self.inside in
    let e = c.make_room.ensures.entries in
    let step = subst (λ (v : Reply SearchPiece). IsTaken i.core c.args.seat v c.take.new.self) c.in-Halted.is c.in_ok-reply.ensures.step in
    (ap (λ es. length es) e ∙ c.self.invariant.0, desk_same g.M.RunNames.series i.core c.take.new.self i.book.entries c.make_room.new.self.entries e step.2 c.self.invariant.1)

pub returns-in_err-make_room-clause-grown : goal.returns-in_err-make_room-clause-grown
returns-in_err-make_room-clause-grown g c = rw (sym c.self.view_is, c.make_room.ensures.entries) refl

pub returns-in_err-make_room-clause-parts : goal.returns-in_err-make_room-clause-parts
returns-in_err-make_room-clause-parts g c = refl

pub returns-in_err-reply-clause-grown : goal.returns-in_err-reply-clause-grown
returns-in_err-reply-clause-grown g c = rw (sym c.self.view_is, c.make_room.ensures.entries) refl

pub returns-in_err-reply-clause-parts : goal.returns-in_err-reply-clause-parts
returns-in_err-reply-clause-parts g c = refl

pub returns-clause-step : goal.returns-clause-step
returns-clause-step g c =
    let h = subst (λ (d : Desk). IsTaken d.core c.args.seat c.in_ok-reply.reply c.take.new.self) c.self.view_is c.in_ok-reply.ensures.step in
    elim c.match-reply.branch [
      | in-Piece w ↦ rw w.self-is h
      | in-Nothing w ↦ rw w.self-is h
      | in-Done w ↦ rw w.self-is h
      | in-Halted w ↦ rw w.self-is h
    ]

pub returns-clause-formed : goal.returns-clause-formed
returns-clause-formed g c = c.in_ok-reply.ensures.formed

pub returns-clause-log : goal.returns-clause-log
returns-clause-log g c =
    let b = c.self.inside.book.entries in
    elim c.match-reply.branch [
      | in-Piece w ↦ (let piece = w.in-Piece.piece in
          let is : w.note_taken.new.self.entries ≡ b ++ Taken c.args.seat piece.number piece.index ∷ [] = cc (w.note_taken.ensures, c.make_room.ensures.entries, w.number.ensures, w.index.ensures) in
          rw (w.self-is, w.in-Piece.is, sym c.self.view_is) is)
      | in-Nothing w ↦ rw (w.self-is, w.in-Nothing.is, sym c.self.view_is) (c.make_room.ensures.entries ∙ sym (append-nil b))
      | in-Done w ↦ rw (w.self-is, w.in-Done.is, sym c.self.view_is) (c.make_room.ensures.entries ∙ sym (append-nil b))
      | in-Halted w ↦ rw (w.self-is, w.in-Halted.is, sym c.self.view_is) (c.make_room.ensures.entries ∙ sym (append-nil b))
    ]

pub returns-clause-grown : goal.returns-clause-grown
returns-clause-grown g c =
    let b = c.self.inside.book.entries in
    elim c.match-reply.branch [
      | in-Piece w ↦ (let piece = w.in-Piece.piece in
          let is : w.note_taken.new.self.entries ≡ b ++ Taken c.args.seat piece.number piece.index ∷ [] = cc (w.note_taken.ensures, c.make_room.ensures.entries, w.number.ensures, w.index.ensures) in
          let long = longer b w.note_taken.new.self.entries (Taken c.args.seat piece.number piece.index) is in
          rw (w.self-is, w.mine-is, sym c.self.view_is) (omega (arith, long, w.add.ensures.amount)))
      | in-Nothing w ↦ rw (w.self-is, w.mine-is, sym c.self.view_is, c.make_room.ensures.entries) refl
      | in-Done w ↦ rw (w.self-is, w.mine-is, sym c.self.view_is, c.make_room.ensures.entries) refl
      | in-Halted w ↦ rw (w.self-is, w.mine-is, sym c.self.view_is, c.make_room.ensures.entries) refl
    ]

pub returns-clause-parts : goal.returns-clause-parts
returns-clause-parts g c =
    elim c.match-reply.branch [
      | in-Piece w ↦ rw w.mine-is w.add.ensures.parts
      | in-Nothing w ↦ rw w.mine-is refl
      | in-Done w ↦ rw w.mine-is refl
      | in-Halted w ↦ rw w.mine-is refl
    ]
