use Rattle.std.proofs.Common.{◌≡◌, arith, refl, sym, subst}
use Rattle.racp_candidates.proofs.lemmas.Forms.{box_formed}
use Rattle.racp_questions.proofs.lemmas.Answered.{no_of}
use Rattle.racp_by_questions.specs.Stops.{IsPlanStop}
use Rattle.racp_by_questions.specs.Stages.{IsStoppedInBox}
use Rattle.racp_by_questions.specs.declared.stop.PlanStop.{PlanStop}
use Rattle.racp_by_questions.proofs.Staging.{box_yes, box_least, box_stopped}
use Rattle.racp_by_questions.proofs.vectors.VectorBox.first_in_order.Goals as goal

pub first-requires-clause-formed : goal.first-requires-clause-formed
first-requires-clause-formed g c =
    box_formed c.args.self.task.net.now c.args.self.task.order.now c.args.self.sharp.floors c.args.self.roofs.now c.args.self.sharp.pairs.items c.args.self.task.root.now c.in_ok-series.series c.in_ok-series.ensures c.requires.known.sharp.sharp_are.sharpened.places
    (record { lower = c.requires.known.root.early.places; upper = c.requires.known.root.late.places })

pub unreachable-requires : goal.unreachable-requires
unreachable-requires g c =
    box_yes c.args.self.task.net.now c.args.self.task.order.now c.args.self.task.root.now c.requires.known.terms c.requires.known.root c.args.self.sharp c.args.self.roofs.now c.requires.known.sharp c.in_ok-series.series c.in_ok-series.ensures
    (no_of c.args.self.task.net.now _ _ _ refl c.in-None.is c.in-Ok.ensures.answer)

pub returns-clause-cheapest : goal.returns-clause-cheapest
returns-clause-cheapest g c = (
  box_least c.args.self.task.net.now c.args.self.task.order.now c.args.self.task.root.now c.requires.known.terms c.requires.known.root c.args.self.sharp c.args.self.roofs.now c.requires.known.sharp c.in_ok-series.series c.in_ok-series.ensures
      c.in-Ok.first c.in-Yes.index c.in-Yes.starts c.in_ok-peaks-in-Yes.field-0 c.in-Ok.ensures.answer c.in-Yes.is c.in_ok-peaks-in-Yes.ensures,
  omega (arith, c.in-Ok.ensures.answered),
)

pub returns-in-Err-clause-cheapest : goal.returns-in-Err-clause-cheapest
returns-in-Err-clause-cheapest g c =
    let told = g.A.Asker.told c.first.new.self in
    let may_stop = g.A.Asker.may_stop c.first.new.self in
    let may_want_thread = g.A.Asker.may_want_thread c.first.new.self in
    let left = g.A.Asker.answered c.first.new.self ≡ g.A.Asker.answered c.args.asker.now in
    subst (λ (stop : PlanStop). IsPlanStop (IsStoppedInBox c.args.self.task.net.now c.args.self.task.order.now c.args.self.sharp.floors told) (may_stop × left) may_want_thread stop) (sym c.stopped_at.ensures)
    (box_stopped c.args.self.task.net.now c.args.self.task.order.now c.args.self.task.root.now c.requires.known.terms c.requires.known.root c.args.self.sharp c.args.self.roofs.now c.requires.known.sharp c.in_ok-series.series c.in_ok-series.ensures
    told may_stop may_want_thread left c.in-Err.stop c.in-Err.ensures.stop c.in-Err.ensures.unanswered)
