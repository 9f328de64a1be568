use Rattle.std.proofs.Common.{◌≡◌, ◌∙◌, arith, subst, sym}
use Rattle.racp_by_questions.specs.Stops.{IsPlanStop}
use Rattle.racp_found.specs.declared.observer.News.TheVariants.{Cost}
use Rattle.racp_by_questions.specs.Stages.{IsStoppedInBox}
use Rattle.racp_by_questions.specs.declared.stop.PlanStop.{PlanStop}
use Rattle.racp_by_questions.proofs.ByHalves.{first_stopped, halves_stopped, sharp_floors, within_least}
use Rattle.racp_by_questions.proofs.Telling.{within_cost}
use Rattle.racp_by_questions.proofs.vectors.VectorBox.cheapest.Goals as goal

pub first_enough-requires-clause-floors : goal.first_enough-requires-clause-floors
first_enough-requires-clause-floors g c = sharp_floors c.args.self.task.net.now c.args.self.task.order.now c.args.self.task.root.now c.requires.known.terms c.requires.known.root c.args.self.sharp c.args.self.roofs.now c.requires.known.sharp

pub returns-in-Err-clause-cheapest : goal.returns-in-Err-clause-cheapest
returns-in-Err-clause-cheapest g c =
    let told = g.A.Asker.told c.first_enough.new.asker in
    let may_stop = g.A.Asker.may_stop c.first_enough.new.asker in
    let may_want_thread = g.A.Asker.may_want_thread c.first_enough.new.asker in
    let left = g.A.Asker.answered c.first_enough.new.asker ≡ g.A.Asker.answered c.args.asker.now in
    subst (λ (stop : PlanStop). IsPlanStop (IsStoppedInBox c.args.self.task.net.now c.args.self.task.order.now c.args.self.sharp.floors told) (may_stop × left) may_want_thread stop) (sym c.given_up.ensures)
    (halves_stopped c.args.self.task.net.now c.args.self.task.order.now c.args.self.task.root.now c.requires.known.terms c.requires.known.root c.args.self.sharp c.args.self.roofs.now c.requires.known.sharp told may_stop may_want_thread left c.in-Err.stop c.in-Err.ensures.stop c.in-Err.ensures.answered)

pub returns-in-Ok-first-clause-cheapest : goal.returns-in-Ok-first-clause-cheapest
returns-in-Ok-first-clause-cheapest g c = (
  within_least c.args.self.task.net.now c.args.self.task.order.now c.args.self.task.root.now c.requires.known.terms c.requires.known.root c.args.self.sharp c.args.self.roofs.now c.requires.known.sharp c.in-Ok.first c.in-Ok.ensures.first,
  omega (arith, c.in-Ok-first.ensures.answered, c.in-Ok.ensures.answered),
)

pub returns-clause-cheapest : goal.returns-clause-cheapest
returns-clause-cheapest g c =
    let told = g.A.Asker.told c.first-2.new.self in
    let may_stop = g.A.Asker.may_stop c.first-2.new.self in
    let may_want_thread = g.A.Asker.may_want_thread c.first-2.new.self in
    let left = g.A.Asker.answered c.first-2.new.self ≡ g.A.Asker.answered c.args.asker.now in
    subst (λ (stop : PlanStop). IsPlanStop (IsStoppedInBox c.args.self.task.net.now c.args.self.task.order.now c.args.self.sharp.floors told) (may_stop × left) may_want_thread stop) (sym c.given_up-in-Err-first.ensures)
    (first_stopped c.args.self.task.net.now c.args.self.task.order.now c.args.self.task.root.now c.requires.known.terms c.requires.known.root c.args.self.sharp c.args.self.roofs.now c.requires.known.sharp c.in-Ok.first c.in-Ok.ensures.first c.in_ok-series.series
    told may_stop may_want_thread left c.in-Err-first.stop c.in_ok-series.ensures c.in-Err-first.ensures.stop (c.in-Err-first.ensures.unanswered ∙ c.in-Ok.ensures.answered))

pub first_enough-requires-clause-heard : goal.first_enough-requires-clause-heard
first_enough-requires-clause-heard g c = λ least is.
    c.requires.heard (Cost least)
    (within_cost c.args.self.task.net.now c.args.self.task.order.now c.args.self.task.root.now c.requires.known.sharp.first c.args.self.roofs.now c.requires.known.terms c.requires.known.root c.requires.known.sharp.ends.lowest c.requires.known.sharp.ends.most least is)
