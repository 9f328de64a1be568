-- An order has one soonest plan at most.
use Rattle.std.proofs.Common.{◌≡◌, ℕ, ◌<◌, ap, arith, subst, sym}
use Rattle.racp_model.specs.Project.{Project}
use Rattle.racp_model.specs.Terms.{Terms}
use Rattle.racp_plan.specs.Plans.{IsPlanOf}
use Rattle.racp_plan.specs.declared.plan.Plan.{Plan}
use Rattle.racp_lexfix.specs.Laws.{AnswerIsOne}
use Rattle.racp_lexfix.specs.declared.answer.Answer.{Answer}
use Rattle.racp_lexfix.specs.declared.answer.Answer.TheVariants.{Plan as ThePlan}
use Rattle.racp_curve.specs.Curves.{order_by}
use Rattle.racp_soonest.specs.Laws.{SoonestIsOne}
use Rattle.racp_soonest.specs.Soonest.{IsSoonest}

-- where one is soonest, another is no sooner
no_sooner : (p : Project) (terms : Terms) (a b : Plan) → IsSoonest p terms a → IsSoonest p terms b → a.deadline < b.deadline → ⊥
no_sooner p terms a b of_a of_b l = of_b.none_sooner a.deadline l a.capacities of_a.plan_is.is_plan.vector.is

same_deadline : (p : Project) (terms : Terms) (a b : Plan) → IsSoonest p terms a → IsSoonest p terms b → a.deadline ≡ b.deadline
same_deadline p terms a b of_a of_b = omega (arith, no_sooner p terms a b of_a of_b, no_sooner p terms b a of_b of_a)

plan_of : Answer → Plan → Plan
plan_of (ThePlan plan) other = plan
plan_of _ other = other

pub one_soonest : AnswerIsOne → SoonestIsOne
unfolding plan_of
one_soonest one p terms a b sound of_a of_b =
    let is_b : IsPlanOf p (order_by a.deadline terms) b = subst (λ (d : ℕ). IsPlanOf p (order_by d terms) b) (sym (same_deadline p terms a b of_a of_b)) of_b.plan_is in
    ap (λ (x : Answer). plan_of x a) (one p (order_by a.deadline terms) (ThePlan a) (ThePlan b) sound of_a.plan_is is_b)
