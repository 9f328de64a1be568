use Rattle.std.proofs.Common.{◌∙◌, ap, arith, sym}
use Rattle.racp_model.specs.Terms.{Terms}
use Rattle.racp_soonest.proofs.Spans.{none_of, planned_by}
use Rattle.racp_soonest.proofs.trying.found_by_crew.Goals as goal

pub returns-in-Some-clause-tried : goal.returns-in-Some-clause-tried
returns-in-Some-clause-tried g c = planned_by c.args.part.now.net.now c.args.part.now.order.now c.in_ok-plan_by_crew.field-0 c.in-Some.plan c.end_of-end.result c.job_count.ensures.sound c.in_ok-plan_by_crew.ensures.answer
    (sym c.plan_in.ensures ∙ c.in-Some.is) (omega (arith, c.end_of-end.ensures.within, ap (λ (terms : Terms). terms.deadline) c.order.view_is)) c.end_of-end.ensures.ends

pub returns-in-None-clause-tried : goal.returns-in-None-clause-tried
returns-in-None-clause-tried g c = none_of c.args.part.now.net.now c.args.part.now.order.now c.in_ok-plan_by_crew.field-0 c.job_count.ensures.sound c.in_ok-plan_by_crew.ensures.answer (sym c.plan_in.ensures ∙ c.in-None.is)
