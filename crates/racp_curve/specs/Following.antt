-- Contracts of private functions: the curve is followed from the order's deadline on, plan by plan.
use Rattle.std.specs.Prelude.{◌≡◌, ℕ, ◌+◌, ◌<◌, ◌≤◌, List, Option, Some, None, Result, Ok, Err, ⊤}
use Rattle.racp_model.specs.Project.{Project}
use Rattle.racp_model.specs.Terms.{Terms, release_of, due_of}
use Rattle.racp_model.specs.Plan.{IsEnough, NoneIsEnough}
use Rattle.racp_model.specs.Window.{Bounds, IsRootWindow}
use Rattle.racp_model.specs.Schedule.{EndsBy}
use Rattle.racp_found.specs.declared.observer.News.{News}
use Rattle.racp_found.specs.declared.observer.News.TheVariants.{Deadline, Floors, Cost, Plan as KnownPlan, Work}
use Rattle.racp_plan.specs.declared.plan.Plan.{Plan}
use Rattle.racp_plan.specs.Plans.{IsPlanOf}
use Rattle.racp_lexfix.specs.declared.answer.Answer.{Answer}
use Rattle.racp_lexfix.specs.declared.answer.Answer.TheVariants.{Plan as ThePlan, Impossible, Due, Ceiling}
use Rattle.racp_curve.specs.Curves.{order_by, ArePlanned, first_deadline, AreOthersThanFirst, AreSteps, IsCurve, IsCurveAnswer, IsCurveStop}
use Rattle.racp_clauses.specs.Solutions.{Problem}
use Rattle.racp_clauses.specs.Roots.{IsOpen}
use Rattle.racp_curve.specs.declared.earlier.Earlier.{Earlier}
use Rattle.racp_curve.specs.declared.earlier.Earlier.TheVariants.{Enough, NotEnough, Unknown}
use Rattle.racp_curve.specs.declared.ground.Ground.{Ground}
use Rattle.racp_curve.specs.declared.start.Start.{Start}
use Rattle.racp_curve.specs.declared.step.Step.{Step}
use Rattle.racp_curve.specs.declared.step.CurveAnswer.{CurveAnswer}
use Rattle.racp_curve.specs.declared.step.CurveStop.{CurveStop}

-- an observer may be told how much was done
abbrev pub MayBeToldOfWork : (News → Type 0) → Type 0
MayBeToldOfWork may_hear = (conflicts clauses : ℕ) → may_hear (Work conflicts clauses)

-- news that is told to another observer only if it is of how much was done may be told if that may be
abbrev pub MayHearWork : (News → Type 0) → News → Type 0
MayHearWork may_hear (Deadline deadline) = ⊤
MayHearWork may_hear (Floors floors) = ⊤
MayHearWork may_hear (Cost least) = ⊤
MayHearWork may_hear (KnownPlan capacities starts known) = ⊤
MayHearWork may_hear (Work conflicts clauses) = may_hear (Work conflicts clauses)

-- the plan that an answer has, or none
abbrev pub plan_in : Answer → Option Plan
plan_in (ThePlan plan) = Some plan
plan_in (Impossible longest) = None
plan_in (Due job) = None
plan_in Ceiling = None

-- the plan, or none if no capacities are enough
abbrev pub IsPlanOrNone : Project → Terms → Option Plan → Type 0
IsPlanOrNone p terms (Some plan) = IsPlanOf p terms plan
IsPlanOrNone p terms None = NoneIsEnough p terms

-- the root window, or none if no capacities are enough
abbrev pub IsRootOrNone : Project → Terms → Option Bounds → Type 0
IsRootOrNone p terms (Some window) = IsRootWindow p (release_of terms) (due_of terms) window
IsRootOrNone p terms None = NoneIsEnough p terms

-- a deadline, at most another, for which capacities are enough; or none if they are not enough for that one
abbrev pub IsSooner : Project → Terms → List ℕ → (deadline : ℕ) → Option ℕ → Type 0
IsSooner p terms capacities deadline (Some end) = (end ≤ deadline) × IsEnough p (order_by end terms) capacities
IsSooner p terms capacities deadline None = IsEnough p (order_by deadline terms) capacities → ⊥

-- what is known of whether capacities are enough for a deadline
abbrev pub IsEarlier : Project → Terms → List ℕ → (deadline : ℕ) → Earlier → Type 0
IsEarlier p terms capacities deadline (Enough end) = IsSooner p terms capacities deadline (Some end)
IsEarlier p terms capacities deadline NotEnough = IsSooner p terms capacities deadline None
IsEarlier p terms capacities deadline Unknown = ⊤

-- capacities are those of the plan for a deadline, or for a later one
abbrev pub ArePlannedFrom : Project → Terms → (deadline : ℕ) → List ℕ → Type 0
ArePlannedFrom p terms deadline capacities = (later : ℕ) × (deadline ≤ later) × ArePlanned p (order_by later terms) capacities

-- capacities are enough for no deadline before an end
abbrev pub IsShortest : Project → Terms → List ℕ → (end : ℕ) → Type 0
IsShortest p terms capacities end = (deadline : ℕ) → deadline < end → IsEnough p (order_by deadline terms) capacities → ⊥

-- the step of a plan, from a deadline on
abbrev pub step_of : Plan → ℕ → Step
step_of plan begin = record { deadline = begin; cost = plan.cost; capacities = plan.capacities }

-- the plan for the deadline just before the steps so far
pub record IsNext (p : Project) (terms : Terms) (plan : Plan) (steps : List Step) : Type 0 where
  pub plan_is : IsPlanOf p (order_by plan.deadline terms) plan
  pub joins : first_deadline (terms.deadline + 1) steps ≡ plan.deadline + 1
  pub are_steps : AreSteps p terms steps
  pub others : AreOthersThanFirst plan.capacities steps

-- steps of which the first begins at a deadline: what is enough for an earlier one are other capacities than the first step's
pub record IsBegun (p : Project) (terms : Terms) (begin : ℕ) (steps : List Step) : Type 0 where
  pub are_steps : AreSteps p terms steps
  pub begins : first_deadline (terms.deadline + 1) steps ≡ begin
  pub others : (deadline : ℕ) → deadline < begin → (capacities : List ℕ) →
      IsEnough p (order_by deadline terms) capacities → AreOthersThanFirst capacities steps

-- the plan for the deadline just before the steps so far, which is before another; or none, if the curve is whole
abbrev pub IsFollowed : Project → Terms → (deadline : ℕ) → List Step → Option Plan → Type 0
IsFollowed p terms deadline steps (Some plan) = IsNext p terms plan steps × (plan.deadline < deadline)
IsFollowed p terms deadline steps None = IsCurve p terms steps

-- what a curve is of is a problem's network and terms
pub record IsGroundOf (q : Problem) (ground : Ground) : Type 0 where
  pub network : ground.net.now ≡ q.network
  pub terms : ground.order.now ≡ q.terms

-- an order with other ceilings
abbrev pub order_within : List ℕ → Terms → Terms
order_within capacities terms = record {
  deadline = terms.deadline;
  prices = terms.prices;
  owned = terms.owned;
  ceilings = Some capacities;
  release = terms.release;
  due = terms.due;
}

-- where searches begin: root bounds that leave nothing out
abbrev pub IsStart : Project → Terms → Start → Type 0
IsStart p terms start = IsOpen (record { network = p; terms = terms; root = start.bounds })

-- a plan for a deadline, and when its last job ends
pub record SettledPlan : Type 0 where
  pub plan : Plan
  pub end : ℕ

-- the plan is that for its deadline, and its jobs end by that time
pub record IsSettled (q : Problem) (settled : SettledPlan) : Type 0 where
  pub is_plan : IsPlanOf q.network (order_by settled.plan.deadline q.terms) settled.plan
  pub ends : EndsBy q.network (λ _. settled.end) settled.plan.starts

-- it settles a deadline: its jobs end by it, and it is no later than the plan's
pub record IsSettledFor (q : Problem) (deadline : ℕ) (settled : SettledPlan) : Type 0 where
  pub is : IsSettled q settled
  pub from : settled.end ≤ deadline
  pub to : deadline ≤ settled.plan.deadline

-- what workers answer: the curve; or right steps, and why there are no more of workers that may stop
abbrev pub IsFollowedByCrew : Project → Terms → (may_stop : Type 0) → Result CurveAnswer CurveStop → Type 0
IsFollowedByCrew p terms may_stop (Ok answer) = IsCurveAnswer p terms answer
IsFollowedByCrew p terms may_stop (Err end) = IsCurveStop p terms may_stop ⊤ end.steps.items end.stop
