use Rattle.std.proofs.Common.{◌≡◌, ◌++◌, ◌∷◌, [], ℕ, subst, sym, arith}
use Rattle.racp_core.specs.Replies.{IsGivenBack}
use Rattle.racp_core.specs.Steps.{IsReturned}
use Rattle.racp_core.specs.declared.replies.Merged.{Merged}
use Rattle.racp_desk.specs.declared.log.Entry.TheVariants.{GivenBack}
use Rattle.racp_desk.specs.Log.{tally, IsAway}
use Rattle.racp_desk.proofs.Allowed.{is_away}
use Rattle.racp_desk.proofs.Desks.{longer, desk_given_back}
use Rattle.racp_desk.proofs.CameIn.{given_in}
use Rattle.racp_desk.proofs.state.State.give_back.Goals as goal

pub note_given_back-requires : goal.note_given_back-requires
note_given_back-requires g c =
    let i = c.self.inside in
    let p = c.args.piece in
    let step : IsReturned i.core p (p.question.window ∷ []) c.give_back-merged.new.self = subst (λ (v : Merged). IsGivenBack i.core p v c.give_back-merged.new.self) c.in-Taken.is c.give_back-merged.ensures.step in
    subst (λ (s : ℕ). IsAway (tally i.book.entries) s c.number-number.result) (sym c.seat-seat.ensures) (subst (λ (n : ℕ). IsAway (tally i.book.entries) p.seat n) (sym c.number-number.ensures) (is_away (tally i.book.entries) i.core p c.self.invariant.1.counts step.out))

pub invariant_of-self : goal.invariant_of-self
invariant_of-self g c =
    let i = c.self.inside in
    let p = c.args.piece in
    let new = c.give_back-merged.new.self in
    let next = c.note_given_back.new.self.entries in
    let is : next ≡ i.book.entries ++ GivenBack p.seat p.number ∷ [] = cc (c.note_given_back.ensures, c.seat-seat.ensures, c.number-number.ensures) in
    let step : IsReturned i.core p (p.question.window ∷ []) new = subst (λ (v : Merged). IsGivenBack i.core p v new) c.in-Taken.is c.give_back-merged.ensures.step in (
      let long = longer i.book.entries next (GivenBack p.seat p.number) is in omega (arith, long, c.add.ensures.total, c.self.invariant.0),
      desk_given_back g.M.RunNames.series i.core new i.book.entries next p is c.give_back-merged.ensures.questions step c.self.invariant.1,
    )

pub returns-in-Taken-clause-came_in : goal.returns-in-Taken-clause-came_in
returns-in-Taken-clause-came_in g c =
    let i = c.self.inside in
    given_in (tally i.book.entries) i.core c.give_back-merged.new.self c.args.piece c.give_back-merged.result c.self.invariant.1.counts c.give_back-merged.ensures.step
