-- How soon a project can end on the terms of an order: the least deadline with a plan, and that plan.
use Rattle.std.specs.Prelude.{ℕ, ◌<◌, ◌≤◌, List, IfSome, ⊤}
use Rattle.racp_model.specs.Project.{Project}
use Rattle.racp_model.specs.Terms.{Terms}
use Rattle.racp_model.specs.Plan.{IsEnough, NoneIsEnough}
use Rattle.racp_plan.specs.Plans.{IsPlanOf}
use Rattle.racp_plan.specs.declared.plan.Plan.{Plan}
use Rattle.racp_by_questions.specs.declared.stop.PlanStop.{PlanStop}
use Rattle.racp_by_questions.specs.declared.stop.PlanStop.TheVariants.{Stopped, Memory, NoThread}
use Rattle.racp_lexfix.specs.Answers.{IsAnswer}
use Rattle.racp_lexfix.specs.Laws.{IsNoPlan}
use Rattle.racp_curve.specs.Curves.{order_by}
use Rattle.racp_soonest.specs.declared.soonest.Soonest.{Soonest}
use Rattle.racp_soonest.specs.declared.soonest.Soonest.TheVariants.{Plan as ThePlan, NoPlan}
use Rattle.racp_soonest.specs.declared.soonest.SoonestStop.{SoonestStop}
use Rattle.racp_soonest.specs.declared.soonest.Span.{Span}

-- no capacities are enough for a deadline before this one
abbrev pub NoneSooner : Project → Terms → ℕ → Type 0
NoneSooner p terms least = (deadline : ℕ) → deadline < least → NoneIsEnough p (order_by deadline terms)

-- the plan of the order with a deadline up to its own, before which there is none
pub record IsSoonest (p : Project) (terms : Terms) (plan : Plan) : Type 0 where
  pub in_time : plan.deadline ≤ terms.deadline
  pub plan_is : IsPlanOf p (order_by plan.deadline terms) plan
  pub none_sooner : NoneSooner p terms plan.deadline

-- what is answered: the soonest plan; or why there is none for the order's own deadline, and so for none before it
abbrev pub IsSoonestAnswer : Project → Terms → Soonest → Type 0
IsSoonestAnswer p terms (ThePlan plan) = IsSoonest p terms plan
IsSoonestAnswer p terms (NoPlan reason) = IsAnswer p terms reason × IsNoPlan reason

-- some capacities are enough for a deadline up to the order's
abbrev pub IsKnown : Project → Terms → ℕ → Type 0
IsKnown p terms deadline = (deadline ≤ terms.deadline) × (capacities : List ℕ) ×
    IsEnough p (order_by deadline terms) capacities

-- a span of deadlines: none are enough before its least one, and some for the one that is known, if one is
pub record IsSpan (p : Project) (terms : Terms) (span : Span) : Type 0 where
  pub none_sooner : NoneSooner p terms span.least
  pub known : IfSome span.known (IsKnown p terms)

-- why it is not answered, of workers that may stop, or memory is refused, or a worker cannot be started
abbrev pub IsStopOf : (may_stop : Type 0) → PlanStop → Type 0
IsStopOf may_stop (Stopped not_before) = may_stop
IsStopOf may_stop Memory = ⊤
IsStopOf may_stop NoThread = ⊤

-- if it stops early: a span in which the least deadline lies, and why no more is known
pub record IsSoonestStop (p : Project) (terms : Terms) (may_stop : Type 0) (end : SoonestStop) : Type 0 where
  pub span : IsSpan p terms end.span
  pub reason : IsStopOf may_stop end.stop
