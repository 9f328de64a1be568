use Rattle.std.proofs.Common.{◌+◌, ◌-◌, Option, IfSome, refl, sym, subst}
use Rattle.std.proofs.lemmas.Result.{err_from_is_err_and}
use Rattle.racp_model.specs.Terms.{Terms, AreTermsOf}
use Rattle.racp_by_questions.specs.Stops.{IsStoppedAt}
use Rattle.racp_lexfix.specs.Answers.{IsAnswer}
use Rattle.racp_lexfix.specs.declared.answer.Answer.{Answer}
use Rattle.racp_plan.specs.declared.plan.Plan.{Plan}
use Rattle.racp_found.specs.declared.observer.News.TheVariants.{Deadline}
use Rattle.racp_found.specs.Told.{IsTrueNews}
use Rattle.racp_curve.specs.Curves.{order_by, AreNotAfterEnough}
use Rattle.racp_curve.specs.Following.{IsPlanOrNone}
use Rattle.racp_curve.proofs.Deadlines.{terms_by}
use Rattle.racp_curve.proofs.Reasons.{plan_or_none}
use Rattle.racp_curve.proofs.Telling.{told_too, stopped_by}
use Rattle.racp_curve.proofs.deadline.plan_by.Goals as goal

pub hear-requires : goal.hear-requires
hear-requires g c = c.requires.hears c.args.deadline c.requires.deadline (Deadline c.args.deadline) refl

pub known_answer-requires-clause-heard : goal.known_answer-requires-clause-heard
known_answer-requires-clause-heard g c = λ news are.
    c.requires.hears c.args.deadline c.requires.deadline news (subst (λ (t : Terms). IsTrueNews c.args.ground.now.net.now t news) c.in_ok-other.ensures are)

pub plan-requires-clause-terms : goal.plan-requires-clause-terms
plan-requires-clause-terms g c = subst (AreTermsOf c.args.ground.now.net.now) (sym c.in_ok-other.ensures) (terms_by c.args.ground.now.net.now c.args.ground.now.order.now c.args.deadline c.requires.deadline c.args.ground.now.terms)

pub plan-requires-clause-heard : goal.plan-requires-clause-heard
plan-requires-clause-heard g c = λ news are.
    c.requires.hears c.args.deadline c.requires.deadline news (subst (λ (t : Terms). IsTrueNews c.args.ground.now.net.now t news) c.in_ok-other.ensures are)

pub returns-in_err-answer-clause-stop : goal.returns-in_err-answer-clause-stop
returns-in_err-answer-clause-stop g c =
    let net = c.args.ground.now.net.now in
    let terms = c.args.ground.now.order.now in
    let answered = g.A.Asker.answered c.plan.new.asker - g.A.Asker.answered c.args.asker.now in
    let told = g.A.Asker.told c.plan.new.asker in
    let p = err_from_is_err_and c.from_residual-in_err-answer.result c.from_residual-in_err-answer.ensures.1 in
    rw (p.1, p.2)
    (told_too (IsStoppedAt net c.in_ok-other.other answered told) (AreNotAfterEnough net terms (c.args.deadline + 1)) (g.A.Asker.may_stop c.plan.new.asker) (g.A.Asker.may_want_thread c.plan.new.asker) c.in_err-answer.field-0.0
    (λ capacities is. stopped_by net terms c.args.deadline answered told capacities (subst (λ (t : Terms). IsStoppedAt net t answered told capacities) c.in_ok-other.ensures is)) c.in_err-answer.ensures.stop)

pub returns-clause-plan : goal.returns-clause-plan
returns-clause-plan g c =
    let net = c.args.ground.now.net.now in
    let terms = order_by c.args.deadline c.args.ground.now.order.now in
    let is_answer = subst (λ (t : Terms). IsAnswer net t c.in_ok-answer.answer) c.in_ok-other.ensures c.in_ok-answer.ensures.answer in
    subst (λ (found : Option Plan). IsPlanOrNone net terms found) (sym c.plan_in-2.ensures) (plan_or_none net terms c.job_count.ensures.sound c.in_ok-answer.answer is_answer)

pub returns-in-Some-2-clause-plan : goal.returns-in-Some-2-clause-plan
returns-in-Some-2-clause-plan g c =
    let net = c.args.ground.now.net.now in
    let terms = order_by c.args.deadline c.args.ground.now.order.now in
    let told : IsAnswer net c.in_ok-other.other c.in-Some-2.known = subst (λ (o : Option Answer). IfSome o (IsAnswer net c.in_ok-other.other)) c.in-Some-2.is c.in_ok-known.ensures in
    let is_answer = subst (λ (t : Terms). IsAnswer net t c.in-Some-2.known) c.in_ok-other.ensures told in
    subst (λ (found : Option Plan). IsPlanOrNone net terms found) (sym c.plan_in.ensures) (plan_or_none net terms c.job_count.ensures.sound c.in-Some-2.known is_answer)
