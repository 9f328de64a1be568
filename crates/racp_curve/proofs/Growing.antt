-- The curve is followed back, step by step.
use Rattle.std.proofs.Common.{◌≡◌, ◌∙◌, ℕ, ◌+◌, ◌<◌, ◌≤◌, List, [], ◌∷◌, Option, Some, None, refl, sym, subst, arith}
use Rattle.racp_model.specs.Project.{Project}
use Rattle.racp_model.specs.Schedule.{EndsBy}
use Rattle.racp_model.specs.Terms.{Terms}
use Rattle.racp_model.specs.Plan.{IsEnough}
use Rattle.racp_plan.specs.declared.plan.Plan.{Plan}
use Rattle.racp_plan.specs.Plans.{IsPlanOf}
use Rattle.racp_by_questions.specs.Stops.{IsPlanStop}
use Rattle.racp_by_questions.specs.declared.stop.PlanStop.{PlanStop}
use Rattle.racp_curve.specs.declared.step.Step.{Step}
use Rattle.racp_curve.specs.Curves.{order_by, first_deadline, AreSteps, AreNotAfterEnough, IsCurve, IsCurveStop}
use Rattle.racp_curve.specs.Following.{step_of, IsPlanOrNone, IsShortest, IsNext, IsBegun, IsFollowed}
use Rattle.racp_curve.proofs.Deadlines.{enough_by, fits_end, none_sooner, not_enough_sooner, planned_between}
use Rattle.racp_curve.proofs.Telling.{told_too}

-- the plan for the order's own deadline, before there are steps
pub next_first : (p : Project) (terms : Terms) (plan : Plan) → IsPlanOf p terms plan → IsNext p terms plan []
next_first p terms plan is = record {
  plan_is = subst (λ (deadline : ℕ). IsPlanOf p (order_by deadline terms) plan) (sym is.deadline) is;
  joins = omega (arith, is.deadline);
  are_steps = tt;
  others = tt;
}

-- no step begins behind the order's deadline
pub first_within : (p : Project) (terms : Terms) (steps : List Step) → AreSteps p terms steps → first_deadline (terms.deadline + 1) steps ≤ terms.deadline + 1
first_within p terms [] are = omega arith
first_within p terms (step ∷ rest) are = omega (arith, are.0.some, first_within p terms rest are.2)

-- so the plan before them is for no later deadline
pub next_within : (p : Project) (terms : Terms) (plan : Plan) (steps : List Step) → IsNext p terms plan steps → plan.deadline ≤ terms.deadline
next_within p terms plan steps next = omega (arith, next.joins, first_within p terms steps next.are_steps)

pub begun_within : (p : Project) (terms : Terms) (steps : List Step) (begin deadline : ℕ) → IsBegun p terms begin steps → deadline + 1 ≡ begin → deadline ≤ terms.deadline
begun_within p terms steps begin deadline h one = omega (arith, one, h.begins, first_within p terms steps h.are_steps)

-- the capacities of a plan are enough for a deadline by which its starts end
pub plan_enough : (p : Project) (terms : Terms) (plan : Plan) (steps : List Step) (end : ℕ) → IsNext p terms plan steps → EndsBy p (λ _. end) plan.starts → IsEnough p (order_by end terms) plan.capacities
plan_enough p terms plan steps end next ends =
    enough_by p terms plan.deadline end plan.capacities plan.starts next.plan_is.is_plan.vector.is.places next.plan_is.is_plan.vector.is.ceilings next.plan_is.is_plan.schedule.is ends

pub plan_ends : (p : Project) (terms : Terms) (plan : Plan) (steps : List Step) → IsNext p terms plan steps → EndsBy p (λ _. plan.deadline) plan.starts
plan_ends p terms plan steps next = fits_end p terms plan.deadline plan.capacities plan.starts next.plan_is.is_plan.schedule.is

module _ (p : Project) (terms : Terms) (plan : Plan) (old : List Step) (next : IsNext p terms plan old) (begin : ℕ) (within : begin ≤ plan.deadline) (enough : IsEnough p (order_by begin terms) plan.capacities) where
  -- the steps with it
  pub steps_more : AreSteps p terms (step_of plan begin ∷ old)
  steps_more = (
    record {
      some = omega (arith, within, next.joins);
      planned = λ deadline from to. planned_between p terms begin deadline plan.deadline plan.capacities from (omega (arith, to, next.joins)) next.plan_is.is_plan.vector enough;
      priced = next.plan_is.cost;
    },
    next.others,
    next.are_steps,
  )

  -- none that are enough for an earlier deadline stand before its capacities
  pub not_after : AreNotAfterEnough p terms begin plan.capacities
  not_after deadline l other is before = not_enough_sooner p terms deadline plan.deadline plan.capacities other (omega (arith, l, within)) next.plan_is.is_plan.vector before is

  -- where they are enough for none, it begins there
  pub begun : (new : List Step) → new ≡ step_of plan begin ∷ old → IsShortest p terms plan.capacities begin → IsBegun p terms begin new
  begun new is shortest = subst (IsBegun p terms begin) (sym is) (record {
    are_steps = steps_more;
    begins = refl;
    others = λ deadline l capacities e same. shortest deadline l (subst (IsEnough p (order_by deadline terms)) same e);
  })

  -- where asking stopped there, the steps are right from it on
  pub stopped_begun : (may_stop may_want_thread : Type 0) (new : List Step) (stop : PlanStop) → new ≡ step_of plan begin ∷ old → IsPlanStop (λ told. told ≡ plan.capacities) may_stop may_want_thread stop →
      IsCurveStop p terms may_stop may_want_thread new stop
  stopped_begun may_stop may_want_thread new stop is h = subst (λ (steps : List Step). IsCurveStop p terms may_stop may_want_thread steps stop) (sym is) (record {
    are_steps = steps_more;
    reason = told_too (λ told. told ≡ plan.capacities) (AreNotAfterEnough p terms begin) may_stop may_want_thread stop (λ capacities same. subst (AreNotAfterEnough p terms begin) (sym same) not_after) h;
  })

-- where planning for the deadline before the first step stops
pub stopped_before : (p : Project) (terms : Terms) (may_stop may_want_thread : Type 0) (steps : List Step) (begin deadline : ℕ) (stop : PlanStop) → IsBegun p terms begin steps → deadline + 1 ≡ begin → IsPlanStop (AreNotAfterEnough p terms (deadline + 1)) may_stop may_want_thread stop →
    IsCurveStop p terms may_stop may_want_thread steps stop
stopped_before p terms may_stop may_want_thread steps begin deadline stop known one h = record {
  are_steps = known.are_steps;
  reason = subst (λ (end : ℕ). IsPlanStop (AreNotAfterEnough p terms end) may_stop may_want_thread stop) (one ∙ sym known.begins) h;
}

-- no deadline is before 0
pub followed_whole : (p : Project) (terms : Terms) (steps : List Step) (begin later : ℕ) → IsBegun p terms begin steps → begin ≡ 0 → IsFollowed p terms later steps None
followed_whole p terms steps begin later h none = record {
  are_steps = h.are_steps;
  none = λ deadline l. absurd (omega (arith, l, h.begins, none));
}

-- the plan for the deadline before the first step, or that there is none
pub followed : (p : Project) (terms : Terms) (steps : List Step) (begin deadline later : ℕ) (found : Option Plan) → IsBegun p terms begin steps → deadline + 1 ≡ begin → begin ≤ later → IsPlanOrNone p (order_by deadline terms) found →
    IsFollowed p terms later steps found
followed p terms steps begin deadline later (Some plan) h one within is = (
  record {
    plan_is = subst (λ (by : ℕ). IsPlanOf p (order_by by terms) plan) (sym is.deadline) is;
    joins = omega (arith, h.begins, one, is.deadline);
    are_steps = h.are_steps;
    others = h.others deadline (omega (arith, one)) plan.capacities is.is_plan.vector.is;
  },
  omega (arith, is.deadline, one, within),
)
followed p terms steps begin deadline later None h one within is = record {
  are_steps = h.are_steps;
  none = λ by l. none_sooner p terms by deadline (omega (arith, l, h.begins, one)) is;
}

-- a curve of an order that has a plan has a step
pub curve_some : (p : Project) (terms : Terms) (steps : List Step) (capacities : List ℕ) → IsCurve p terms steps → IsEnough p terms capacities → steps ≡ [] → ⊥
curve_some p terms [] capacities h e is = h.none terms.deadline (omega arith) capacities e
curve_some p terms (step ∷ rest) capacities h e is = cc

-- what follows, by the variant
pub followed_some : (p : Project) (terms : Terms) (deadline : ℕ) (steps : List Step) (found : Option Plan) (plan : Plan) → IsFollowed p terms deadline steps found → found ≡ Some plan → IsNext p terms plan steps × (plan.deadline < deadline)
followed_some p terms deadline steps found plan h is = subst (λ (o : Option Plan). IsFollowed p terms deadline steps o) is h

pub followed_none : (p : Project) (terms : Terms) (deadline : ℕ) (steps : List Step) (found : Option Plan) → IsFollowed p terms deadline steps found → found ≡ None → IsCurve p terms steps
followed_none p terms deadline steps found h is = subst (λ (o : Option Plan). IsFollowed p terms deadline steps o) is h
