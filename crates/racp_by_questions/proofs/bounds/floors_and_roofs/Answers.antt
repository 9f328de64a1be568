use Rattle.std.proofs.Common.{◌≡◌, ◌∙◌, ◌-◌, Bool, Option, is_some, false, arith, sym, subst}
use Rattle.std.specs.Prelude.{MatchOption}
use Rattle.racp_model.specs.Plan.{NoneIsEnough}
use Rattle.racp_by_questions.specs.Stages.{AreFirstEnds, IsYesOrNo}
use Rattle.racp_by_questions.specs.Stops.{ceiling_series, IsStoppedAt, IsPlanStop}
use Rattle.racp_by_questions.specs.declared.bounds.Ends.{Ends}
use Rattle.racp_by_questions.specs.declared.stop.PlanStop.{PlanStop}
use Rattle.racp_by_questions.proofs.Choosing.{enough_roofs, plain_yes}
use Rattle.racp_by_questions.proofs.Raising.{raised-floors, raised-above, raised-stop}
use Rattle.racp_by_questions.proofs.Staging.{none_there, no_ceilings, some_ceilings, ends_with, stopped_first}
use Rattle.racp_by_questions.proofs.bounds.floors_and_roofs.Goals as goal

pub returns-in_default-clause-bounded : goal.returns-in_default-clause-bounded
returns-in_default-clause-bounded g c =
    subst (λ (o : Option Ends). MatchOption o (NoneIsEnough c.args.task.now.net.now c.args.task.now.order.now) (AreFirstEnds c.args.task.now.net.now c.args.task.now.order.now c.args.task.now.root.now)) c.in_default.is c.in_ok-ends.ensures

pub returns-then-not-has_ceilings-clause-bounded : goal.returns-then-not-has_ceilings-clause-bounded
returns-then-not-has_ceilings-clause-bounded g c =
    let first : AreFirstEnds c.args.task.now.net.now c.args.task.now.order.now c.args.task.now.root.now c.in-Some.ends =
    subst (λ (o : Option Ends). MatchOption o (NoneIsEnough c.args.task.now.net.now c.args.task.now.order.now) (AreFirstEnds c.args.task.now.net.now c.args.task.now.order.now c.args.task.now.root.now)) c.in-Some.is c.in_ok-ends.ensures in
    let none : is_some c.args.task.now.order.now.ceilings ≡ false = sym c.has_ceilings.ensures ∙ c.if-not-has_ceilings.true in (
      record {
        lowest = first.lowest;
        most = first.most;
        bounds = first.bounds;
        yes = plain_yes c.args.task.now.net.now c.args.task.now.order.now c.args.task.now.root.now c.in-Some.ends.floors c.in-Some.ends.roofs c.args.task.now.terms c.args.task.now.root_is first.lowest first.most
            (none_there c.args.task.now.order.now.ceilings none);
      },
      omega (arith, no_ceilings c.args.task.now.order.now none),
    )

pub returns-in-Ok-true-clause-bounded : goal.returns-in-Ok-true-clause-bounded
returns-in-Ok-true-clause-bounded g c =
    let first : AreFirstEnds c.args.task.now.net.now c.args.task.now.order.now c.args.task.now.root.now c.in-Some.ends =
    subst (λ (o : Option Ends). MatchOption o (NoneIsEnough c.args.task.now.net.now c.args.task.now.order.now) (AreFirstEnds c.args.task.now.net.now c.args.task.now.order.now c.args.task.now.root.now)) c.in-Some.is c.in_ok-ends.ensures in (
      record {
        lowest = first.lowest;
        most = first.most;
        bounds = first.bounds;
        yes = subst (λ (b : Bool). IsYesOrNo c.args.task.now.net.now c.in-Some.ends.roofs c.args.task.now.root.now b) c.in-Ok-true.field-0-test c.in-Ok-true.ensures.decided;
      },
      omega (arith, c.in-Ok-true.ensures.answered, some_ceilings c.args.task.now.order.now (sym c.has_ceilings.ensures ∙ c.if-not-has_ceilings.false)),
    )

pub returns-in-Ok-false-clause-bounded : goal.returns-in-Ok-false-clause-bounded
returns-in-Ok-false-clause-bounded g c = λ vector e.
    let first : AreFirstEnds c.args.task.now.net.now c.args.task.now.order.now c.args.task.now.root.now c.in-Some.ends =
    subst (λ (o : Option Ends). MatchOption o (NoneIsEnough c.args.task.now.net.now c.args.task.now.order.now) (AreFirstEnds c.args.task.now.net.now c.args.task.now.order.now c.args.task.now.root.now)) c.in-Some.is c.in_ok-ends.ensures in
    let some = enough_roofs c.args.task.now.net.now c.args.task.now.order.now c.args.task.now.root.now c.in-Some.ends.floors c.in-Some.ends.roofs c.args.task.now.terms c.args.task.now.root_is first.lowest first.most vector e in
    let none = subst (λ (b : Bool). IsYesOrNo c.args.task.now.net.now c.in-Some.ends.roofs c.args.task.now.root.now b) c.in-Ok-false.field-0-test c.in-Ok-false.ensures.decided in
    none some.0 some.1

pub returns-in-Err-clause-stop : goal.returns-in-Err-clause-stop
returns-in-Err-clause-stop g c =
    let answered = g.A.Asker.answered c.is_yes.new.asker - g.A.Asker.answered c.args.asker.now in
    let told = g.A.Asker.told c.is_yes.new.asker in
    let may_stop = g.A.Asker.may_stop c.is_yes.new.asker in
    let may_want_thread = g.A.Asker.may_want_thread c.is_yes.new.asker in
    let IsTold = IsStoppedAt c.args.task.now.net.now c.args.task.now.order.now answered told in
    let none : answered ≡ 0 = omega (arith, c.in-Err.ensures.unanswered) in
    let one : ceiling_series c.args.task.now.order.now ≡ 1 = some_ceilings c.args.task.now.order.now (sym c.has_ceilings.ensures ∙ c.if-not-has_ceilings.false) in
    let first : AreFirstEnds c.args.task.now.net.now c.args.task.now.order.now c.args.task.now.root.now c.in-Some.ends =
    subst (λ (o : Option Ends). MatchOption o (NoneIsEnough c.args.task.now.net.now c.args.task.now.order.now) (AreFirstEnds c.args.task.now.net.now c.args.task.now.order.now c.args.task.now.root.now)) c.in-Some.is c.in_ok-ends.ensures in
    let at = stopped_first c.args.task.now.net.now c.args.task.now.order.now c.args.task.now.root.now c.args.task.now.terms c.args.task.now.root_is c.in-Some.ends.floors c.in-Some.ends.roofs answered told
    first.lowest first.most none one in
    let raised : IsTold c.raised.result = raised-stop c.args.task.now.net.now c.args.task.now.order.now answered told c.in-Some.ends.floors c.raised.result c.args.task.now.terms
    (raised-floors (λ f. f.now) c.args.task.now.net.now c.args.task.now.order.now c.in-Some.ends.floors c.raised.result c.args.known c.raised.ensures c.requires.known first.least)
    (raised-above (λ f. f.now) c.args.task.now.net.now c.args.task.now.order.now c.in-Some.ends.floors c.raised.result c.args.known c.raised.ensures first.least.places)
    (omega (arith, none, one)) at in
    subst (λ (stop : PlanStop). IsPlanStop IsTold may_stop may_want_thread stop) (sym c.given_up.ensures)
    (ends_with IsTold may_stop may_want_thread c.in-Err.stop c.raised.result c.in-Err.ensures.stop raised)

pub tell_floors-requires-clause-floors : goal.tell_floors-requires-clause-floors
tell_floors-requires-clause-floors g c =
    let first : AreFirstEnds c.args.task.now.net.now c.args.task.now.order.now c.args.task.now.root.now c.in-Some.ends =
    subst (λ (o : Option Ends). MatchOption o (NoneIsEnough c.args.task.now.net.now c.args.task.now.order.now) (AreFirstEnds c.args.task.now.net.now c.args.task.now.order.now c.args.task.now.root.now)) c.in-Some.is c.in_ok-ends.ensures in
    first.least
