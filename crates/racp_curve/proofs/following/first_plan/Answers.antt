use Rattle.std.proofs.Common.{ap, arith}
use Rattle.racp_model.specs.Terms.{Terms}
use Rattle.racp_found.specs.declared.observer.News.TheVariants.{Deadline}
use Rattle.racp_curve.proofs.following.first_plan.Goals as goal

pub hear-requires : goal.hear-requires
hear-requires g c =
    c.requires.hears c.args.ground.now.order.now.deadline (omega arith) (Deadline c.order.inside.deadline) (ap (λ (terms : Terms). terms.deadline) c.order.view_is)

pub known_answer-requires-clause-heard : goal.known_answer-requires-clause-heard
known_answer-requires-clause-heard g c = λ news are. c.requires.hears c.args.ground.now.order.now.deadline (omega arith) news are

pub plan-requires-clause-heard : goal.plan-requires-clause-heard
plan-requires-clause-heard g c = λ news are. c.requires.hears c.args.ground.now.order.now.deadline (omega arith) news are
