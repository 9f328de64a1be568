use Rattle.std.proofs.Common.{◌≡◌, ◌+◌, ◌++◌, ◌∷◌, [], ℕ, Bool, length, refl, ap, subst, sym, arith, append-nil}
use Rattle.std.proofs.lemmas.Result.{IfOk-from_err}
use Rattle.std.specs.Option.{is_some}
use Rattle.racp_core.specs.Replies.{IsHanded, IsMerged}
use Rattle.racp_core.specs.declared.replies.Merged.{Merged}
use Rattle.racp_desk.specs.declared.log.Entry.TheVariants.{Handed}
use Rattle.racp_desk.specs.Log.{tally, IsAway, LeavesNone}
use Rattle.racp_desk.specs.Desk.{Desk, windows_left}
use Rattle.racp_desk.proofs.Allowed.{is_away}
use Rattle.racp_desk.proofs.Desks.{longer, desk_same, desk_handed, merged_out, leaves_none, few_left}
use Rattle.racp_desk.proofs.CameIn.{handed_in}
use Rattle.racp_desk.proofs.state.State.hand.Goals.{in-Taken, in-Stale}
use Rattle.racp_desk.proofs.state.State.hand.Goals as goal

pub note_handed-requires : goal.note_handed-requires
note_handed-requires g c =
    let i = c.self.inside in
    let f = c.args.finding in
    let seat : c.seat-seat.result ≡ f.piece.seat = cc (c.seat-seat.ensures, c.piece.ensures.piece) in
    let number : c.number-number.result ≡ f.piece.number = cc (c.number-number.ensures, c.piece-2.ensures.piece) in
    let rest : c.windows_left-rest.result ≡ windows_left f.rest = cc (c.windows_left-rest.ensures, c.rest.ensures.rest) in
    let step : IsMerged i.core f f.found c.hand.new.self = subst (λ (v : Merged). IsHanded i.core f v c.hand.new.self) c.in-Taken.is c.in_ok-merged.ensures.step in (
      subst (λ (s : ℕ). IsAway (tally i.book.entries) s c.number-number.result) (sym seat) (subst (λ (n : ℕ). IsAway (tally i.book.entries) f.piece.seat n) (sym number) (is_away (tally i.book.entries) i.core f.piece c.self.invariant.1.counts (merged_out i.core f f.found c.hand.new.self step))),
      subst (λ (b : Bool). LeavesNone b c.windows_left-rest.result) (sym c.is_found-found.ensures) (subst (λ (n : ℕ). LeavesNone (is_some f.found) n) (sym rest) (leaves_none g.N.OfNetwork.network f.piece.question.capacities f.piece.question.window f.found f.rest c.piece.ensures.is_true)),
      (let n = c.nodes-nodes.ensures in omega (arith, n, c.requires.nodes)),
      (let few = few_left f.rest in omega (arith, few, rest)),
    )

pub invariant_of-self-in-Taken : goal.invariant_of-self-in-Taken
invariant_of-self-in-Taken g c =
    let i = c.self.inside in
    let f = c.args.finding in
    let new = c.hand.new.self in
    let next = c.note_handed.new.self.entries in
    let is : next ≡ i.book.entries ++ Handed f.piece.seat f.piece.number (windows_left f.rest) (is_some f.found) f.nodes ∷ [] =
    cc (c.note_handed.ensures, c.seat-seat.ensures, c.piece.ensures.piece, c.number-number.ensures, c.piece-2.ensures.piece, c.windows_left-rest.ensures, c.rest.ensures.rest, c.is_found-found.ensures, c.nodes-nodes.ensures) in
    let step : IsMerged i.core f f.found new = subst (λ (v : Merged). IsHanded i.core f v new) c.in-Taken.is c.in_ok-merged.ensures.step in (
      let long = longer i.book.entries next (Handed f.piece.seat f.piece.number (windows_left f.rest) (is_some f.found) f.nodes) is in omega (arith, long, c.add.ensures.total, c.self.invariant.0),
      desk_handed g.M.RunNames.series i.core new i.book.entries next f is c.hand.ensures.questions step c.self.invariant.1,
    )

pub returns-clause-came_in : goal.returns-clause-came_in
returns-clause-came_in g c =
    let i = c.self.inside in
    let h = handed_in (tally i.book.entries) i.core c.hand.new.self c.args.finding c.in_ok-merged.merged c.self.invariant.1.counts c.in_ok-merged.ensures.step in
    elim c.match-merged.branch [
      | in-Taken w ↦ rw w.self-is h
      | in-Stale w ↦ rw w.self-is h
    ]

pub add-requires : goal.add-requires
add-requires g c = c.requires.parts

pub invariant_of-self : goal.invariant_of-self
invariant_of-self g c = (c.self.invariant.0, desk_same g.M.RunNames.series c.self.inside.core c.hand.new.self c.self.inside.book.entries c.self.inside.book.entries refl c.in_err-merged.ensures.err.0 c.self.invariant.1)

pub invariant_of-self-in-Stale : goal.invariant_of-self-in-Stale
invariant_of-self-in-Stale g c =
    let step = subst (λ (v : Merged). IsHanded c.self.inside.core c.args.finding v c.hand.new.self) c.in-Stale.is c.in_ok-merged.ensures.step in
    (c.self.invariant.0, desk_same g.M.RunNames.series c.self.inside.core c.hand.new.self c.self.inside.book.entries c.self.inside.book.entries refl step.1 c.self.invariant.1)

pub returns-in_err-merged-clause-step : goal.returns-in_err-merged-clause-step
returns-in_err-merged-clause-step g c = IfOk-from_err c.from_residual.result _ c.from_residual.ensures.0

pub returns-in_err-merged-clause-log : goal.returns-in_err-merged-clause-log
returns-in_err-merged-clause-log g c = IfOk-from_err c.from_residual.result _ c.from_residual.ensures.0

pub returns-in_err-merged-clause-came_in : goal.returns-in_err-merged-clause-came_in
returns-in_err-merged-clause-came_in g c = IfOk-from_err c.from_residual.result _ c.from_residual.ensures.0

pub returns-in_err-merged-clause-grown : goal.returns-in_err-merged-clause-grown
returns-in_err-merged-clause-grown g c = ap (λ (d : Desk). c.args.mine.now.amount + length d.log) (sym c.self.view_is)

pub returns-in_err-merged-clause-parts : goal.returns-in_err-merged-clause-parts
returns-in_err-merged-clause-parts g c = refl

pub returns-clause-step : goal.returns-clause-step
returns-clause-step g c =
    let h = subst (λ (d : Desk). IsHanded d.core c.args.finding c.in_ok-merged.merged c.hand.new.self) c.self.view_is c.in_ok-merged.ensures.step in
    elim c.match-merged.branch [
      | in-Taken w ↦ rw w.self-is h
      | in-Stale w ↦ rw w.self-is h
    ]

pub returns-clause-log : goal.returns-clause-log
returns-clause-log g c =
    let i = c.self.inside in
    let f = c.args.finding in
    elim c.match-merged.branch [
      | in-Taken w ↦ (let is : w.note_handed.new.self.entries ≡ i.book.entries ++ Handed f.piece.seat f.piece.number (windows_left f.rest) (is_some f.found) f.nodes ∷ [] =
          cc (w.note_handed.ensures, c.seat-seat.ensures, c.piece.ensures.piece, c.number-number.ensures, c.piece-2.ensures.piece, c.windows_left-rest.ensures, c.rest.ensures.rest, c.is_found-found.ensures, c.nodes-nodes.ensures) in
          rw (w.self-is, w.in-Taken.is, sym c.self.view_is) is)
      | in-Stale w ↦ rw (w.self-is, w.in-Stale.is, sym c.self.view_is) (sym (append-nil i.book.entries))
    ]

pub returns-clause-grown : goal.returns-clause-grown
returns-clause-grown g c =
    let i = c.self.inside in
    elim c.match-merged.branch [
      | in-Taken w ↦ (let long = longer i.book.entries w.note_handed.new.self.entries (Handed c.seat-seat.result c.number-number.result c.windows_left-rest.result c.is_found-found.result c.nodes-nodes.result) w.note_handed.ensures in
          rw (w.self-is, w.mine-is, sym c.self.view_is) (omega (arith, long, w.add.ensures.amount)))
      | in-Stale w ↦ rw (w.self-is, w.mine-is, sym c.self.view_is) refl
    ]

pub returns-clause-parts : goal.returns-clause-parts
returns-clause-parts g c = elim c.match-merged.branch [
  | in-Taken w ↦ rw w.mine-is w.add.ensures.parts
  | in-Stale w ↦ rw w.mine-is refl
]
