-- Spans of deadlines that are made narrower.
use Rattle.std.proofs.Common.{◌≡◌, ℕ, ◌+◌, ◌<◌, ◌≤◌, List, Option, Some, None, IfSome, arith, subst, sym}
use Rattle.racp_model.specs.Project.{Project, IsSound}
use Rattle.racp_model.specs.Schedule.{EndsBy}
use Rattle.racp_model.specs.Terms.{Terms}
use Rattle.racp_model.specs.Plan.{NoneIsEnough}
use Rattle.racp_plan.specs.Fitting.{AreFitting}
use Rattle.racp_plan.specs.Plans.{IsPlanOf}
use Rattle.racp_plan.specs.declared.plan.Plan.{Plan}
use Rattle.racp_drafts.specs.declared.draft.Draft.{Draft}
use Rattle.racp_by_clauses.specs.Optima.{IsFeasible}
use Rattle.racp_by_clauses.specs.declared.feasible.Feasible.{Feasible}
use Rattle.racp_by_clauses.specs.declared.feasible.Feasible.TheVariants.{Fits, NoneFits}
use Rattle.racp_lexfix.specs.Answers.{IsAnswer}
use Rattle.racp_lexfix.specs.declared.answer.Answer.{Answer}
use Rattle.racp_lexfix.specs.declared.answer.Answer.TheVariants.{Plan as ThePlan}
use Rattle.racp_curve.specs.Curves.{order_by}
use Rattle.racp_curve.specs.Following.{plan_in, IsPlanOrNone}
use Rattle.racp_soonest.proofs.Deadlines.{none_sooner, enough_by}
use Rattle.racp_soonest.proofs.Reasons.{plan_or_none}
use Rattle.racp_soonest.specs.Soonest.{IsKnown, IsSoonest, IsSpan, NoneSooner}
use Rattle.racp_soonest.specs.Steps.{IsBeforeKnown, IsClosed, IsClosedAt, room_at}
use Rattle.racp_soonest.specs.declared.soonest.Span.{Span}

-- where none are enough for a deadline, none are for any up to it
pub none_up_to : (p : Project) (terms : Terms) (deadline : ℕ) → NoneIsEnough p (order_by deadline terms) → NoneSooner p terms (deadline + 1)
none_up_to p terms deadline none sooner l = none_sooner p terms sooner deadline (omega (arith, l)) none

-- capacities that some starts fit are enough for the deadline by which these end
pub known_by : (p : Project) (terms : Terms) (end : ℕ) (capacities starts : List ℕ) → AreFitting p terms capacities starts → end ≤ terms.deadline → EndsBy p (λ _. end) starts → IsKnown p terms end
known_by p terms end capacities starts fitting within ends = (within, capacities, enough_by p terms terms.deadline end capacities starts fitting.places fitting.ceilings fitting.fits ends)

-- room gets less by an earlier deadline that is known
pub room_known : (known : Option ℕ) (least last deadline end : ℕ) → least ≤ deadline → deadline ≤ last → IsBeforeKnown known deadline → end ≤ deadline → room_at (Some end) least last < room_at known least last
room_known None least last deadline end from to before within = omega (arith, from, to, within)
room_known (Some known) least last deadline end from to before within = omega (arith, from, to, before, within)

-- and by a later deadline before which there is none
pub room_least : (known : Option ℕ) (least last deadline : ℕ) → least ≤ deadline → deadline ≤ last → IsBeforeKnown known deadline → room_at known (deadline + 1) last < room_at known least last
room_least None least last deadline from to before = omega (arith, from, to)
room_least (Some known) least last deadline from to before = omega (arith, from, to, before)

-- the plan for a deadline before which none are enough is the soonest
pub soonest_at : (p : Project) (terms : Terms) (plan : Plan) (deadline : ℕ) → deadline ≤ terms.deadline → NoneSooner p terms deadline → IsPlanOf p (order_by deadline terms) plan → IsSoonest p terms plan
soonest_at p terms plan deadline within none is = record {
  in_time = subst (λ (d : ℕ). d ≤ terms.deadline) (sym is.deadline) within;
  plan_is = subst (λ (d : ℕ). IsPlanOf p (order_by d terms) plan) (sym is.deadline) is;
  none_sooner = subst (λ (d : ℕ). NoneSooner p terms d) (sym is.deadline) none;
}

-- an answer for the order's own deadline, before which none are enough
pub soonest_own : (p : Project) (terms : Terms) (plan : Plan) (answer : Answer) → answer ≡ ThePlan plan → NoneSooner p terms terms.deadline → IsAnswer p terms answer → IsSoonest p terms plan
soonest_own p terms plan answer same none is =
    let plan_is : IsAnswer p terms (ThePlan plan) = subst (λ (a : Answer). IsAnswer p terms a) same is in
    soonest_at p terms plan terms.deadline (omega arith) none plan_is

-- a span in which nothing is left, where no plan is known
pub closed_none : (p : Project) (terms : Terms) (span : Span) → IsSpan p terms span → IsClosed span terms.deadline → span.known ≡ None → NoneSooner p terms terms.deadline
closed_none p terms span is closed none deadline l =
    let after : IsClosedAt None span.least terms.deadline = subst (λ (o : Option ℕ). IsClosedAt o span.least terms.deadline) none closed in
    is.none_sooner deadline (omega (arith, l, after))

-- and where one is
pub closed_known : (p : Project) (terms : Terms) (span : Span) (known : ℕ) → IsSpan p terms span → IsClosed span terms.deadline → span.known ≡ Some known → NoneSooner p terms known
closed_known p terms span known is closed some deadline l =
    let after : IsClosedAt (Some known) span.least terms.deadline = subst (λ (o : Option ℕ). IsClosedAt o span.least terms.deadline) some closed in
    is.none_sooner deadline (omega (arith, l, after))

pub known_in : (p : Project) (terms : Terms) (span : Span) (known : ℕ) → IsSpan p terms span → span.known ≡ Some known → IsKnown p terms known
known_in p terms span known is some =
    let found : IfSome (Some known) (IsKnown p terms) = subst (λ (o : Option ℕ). IfSome o (IsKnown p terms)) some is.known in
    found

-- what is known is at most the last deadline
pub known_within : (p : Project) (terms : Terms) (known : Option ℕ) → IfSome known (IsKnown p terms) → IfSome known (λ k. k ≤ terms.deadline)
known_within p terms None is = tt
known_within p terms (Some known) is = is.0

-- a deadline for which some are enough has a plan
pub not_none : (p : Project) (terms : Terms) (deadline : ℕ) (answer : Answer) → IsSound p → IsKnown p terms deadline → IsAnswer p (order_by deadline terms) answer → plan_in answer ≡ None → ⊥
not_none p terms deadline answer sound known is none =
    let found : IsPlanOrNone p (order_by deadline terms) None = subst (λ (o : Option Plan). IsPlanOrNone p (order_by deadline terms) o) none (plan_or_none p (order_by deadline terms) sound answer is) in
    found known.1 known.2

-- the plan that an answer has is enough for the deadline by which its jobs end
pub planned_by : (p : Project) (terms : Terms) (answer : Answer) (plan : Plan) (end : ℕ) → IsSound p → IsAnswer p terms answer → plan_in answer ≡ Some plan → end ≤ terms.deadline → EndsBy p (λ _. end) plan.starts → IsKnown p terms end
planned_by p terms answer plan end sound is some within ends =
    let found : IsPlanOrNone p terms (Some plan) = subst (λ (o : Option Plan). IsPlanOrNone p terms o) some (plan_or_none p terms sound answer is) in
    let fitting : AreFitting p terms plan.capacities plan.starts = record {
      places = found.is_plan.vector.is.places;
      ceilings = found.is_plan.vector.is.ceilings;
      fits = found.is_plan.schedule.is;
    } in
    known_by p terms end plan.capacities plan.starts fitting within ends

-- and where it has none, none are enough
pub none_of : (p : Project) (terms : Terms) (answer : Answer) → IsSound p → IsAnswer p terms answer → plan_in answer ≡ None → NoneIsEnough p terms
none_of p terms answer sound is none =
    let found : IsPlanOrNone p terms None = subst (λ (o : Option Plan). IsPlanOrNone p terms o) none (plan_or_none p terms sound answer is) in
    found

-- what fits, of a draft
pub drafted_by : (p : Project) (terms : Terms) (found : Feasible) (draft : Draft) (end : ℕ) → IsFeasible p terms found → found ≡ Fits draft → end ≤ terms.deadline → EndsBy p (λ _. end) draft.starts → IsKnown p terms end
drafted_by p terms found draft end is fits within ends =
    let drafted : IsFeasible p terms (Fits draft) = subst (λ (f : Feasible). IsFeasible p terms f) fits is in
    known_by p terms end draft.capacities draft.starts drafted.fits within ends

pub none_drafted : (p : Project) (terms : Terms) (found : Feasible) → IsFeasible p terms found → found ≡ NoneFits → NoneIsEnough p terms
none_drafted p terms found is none =
    let drafted : IsFeasible p terms NoneFits = subst (λ (f : Feasible). IsFeasible p terms f) none is in
    drafted
