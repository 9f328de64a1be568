use Rattle.std.proofs.Common.{inl, refl, rules}
use Rattle.racp_lexfix.specs.declared.answer.Answer.TheVariants.{Plan as ThePlan}
use Rattle.racp_prove.proofs.by_clauses.answer_shown.Goals as goal

pub returns-in-Some-2 : goal.returns-in-Some-2
returns-in-Some-2 c = inl (ThePlan c.args.plan.now, c.requires.plan, (refl, search (rules, c.in-Some-2.is, c.in_ok-text.ensures)))
