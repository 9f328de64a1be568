-- Why a curve is known in part alone, and what a curve tells.
use Rattle.std.proofs.Common.{◌≡◌, ℕ, ◌+◌, ◌≤◌, Bool, false, List, [], ◌∷◌, Option, refl, sym, subst, arith, inl, inr, ◌⊎◌}
use Rattle.std.specs.Prelude.{⊤, Result, Ok, Err, IfOk, IfErr}
use Rattle.std.specs.List.{Contains}
use Rattle.std.proofs.lemmas.Bool.{cases_lt}
use Rattle.racp_model.specs.Project.{Project}
use Rattle.racp_model.specs.Plan.{NoneIsEnough}
use Rattle.racp_model.specs.Terms.{Terms}
use Rattle.racp_model.proofs.lemmas.Relations.{member_first, member_later}
use Rattle.racp_by_questions.specs.Stops.{IsStoppedAt, IsPlanStop}
use Rattle.racp_by_questions.specs.Crowds.{HaveTaken, MayStop}
use Rattle.racp_by_questions.specs.declared.stop.PlanStop.{PlanStop}
use Rattle.racp_by_questions.specs.declared.stop.PlanStop.TheVariants.{Stopped, Memory, NoThread}
use Rattle.racp_curve.specs.declared.step.Step.{Step}
use Rattle.racp_curve.specs.declared.step.CurveAnswer.{CurveAnswer}
use Rattle.racp_curve.specs.declared.step.CurveStop.{CurveStop}
use Rattle.racp_curve.specs.Following.{IsFollowedByCrew}
use Rattle.racp_curve.specs.Curves.{order_by, ArePlanned, first_deadline, AreSteps, AreNotAfterEnough, IsCurve, IsCurveAnswer, IsCurveStop}
use Rattle.racp_curve.proofs.Deadlines.{enough_later}

-- what is told of a stop follows from something else that is
pub told_too : (IsTold IsToldToo : List ℕ → Type 0) (may_stop may_want_thread : Type 0) (stop : PlanStop) → ((capacities : List ℕ) → IsTold capacities → IsToldToo capacities) → IsPlanStop IsTold may_stop may_want_thread stop →
    IsPlanStop IsToldToo may_stop may_want_thread stop
told_too IsTold IsToldToo may_stop may_want_thread (Stopped not_before) so h = (h.0, so not_before h.1)
told_too IsTold IsToldToo may_stop may_want_thread Memory so h = tt
told_too IsTold IsToldToo may_stop may_want_thread NoThread so h = h

-- where planning for a deadline stops, none that are enough for it or an earlier one stand before what is told
pub stopped_by : (p : Project) (terms : Terms) (deadline answered : ℕ) (told : Option (List ℕ)) (capacities : List ℕ) → IsStoppedAt p (order_by deadline terms) answered told capacities → AreNotAfterEnough p terms (deadline + 1) capacities
stopped_by p terms deadline answered told capacities h by l other is before = h.none.none other (enough_later p terms by deadline other (omega (arith, l)) is) before

-- where planning for the order's own deadline stops, there are no steps
pub stopped_first : (p : Project) (terms : Terms) (may_stop may_want_thread : Type 0) (steps : List Step) (stop : PlanStop) → steps ≡ [] → IsPlanStop (AreNotAfterEnough p terms (terms.deadline + 1)) may_stop may_want_thread stop →
    IsCurveStop p terms may_stop may_want_thread steps stop
stopped_first p terms may_stop may_want_thread steps stop none h = subst (λ (s : List Step). IsCurveStop p terms may_stop may_want_thread s stop) (sym none) (record {
  are_steps = tt;
  reason = h;
})

-- an asker that neither stops nor wants a thread
pub memory_alone : (IsTold : List ℕ → Type 0) (stop : PlanStop) → IsPlanStop IsTold ⊥ ⊥ stop → stop ≡ Memory
memory_alone IsTold (Stopped not_before) h = absurd h.0
memory_alone IsTold Memory h = refl
memory_alone IsTold NoThread h = absurd h

-- workers stop where no turn is left, so that runs of desks took all, or where their stop is not quiet
all_taken : (p : Project) (quiet : Bool) (left pieces turns : ℕ) → HaveTaken p quiet pieces → left + pieces ≡ turns → (left ≡ 0) ⊎ (quiet ≡ false) → MayStop p quiet turns
all_taken p quiet left pieces turns taken sum (inl none) = inl (let all : pieces ≡ turns = omega (arith, none, sum) in subst (HaveTaken p quiet) all taken)
all_taken p quiet left pieces turns taken sum (inr asks) = inr asks

crowd_reason : (IsTold : List ℕ → Type 0) (p : Project) (quiet : Bool) (left pieces turns : ℕ) (stop : PlanStop) → HaveTaken p quiet pieces → left + pieces ≡ turns → IsPlanStop IsTold ((left ≡ 0) ⊎ (quiet ≡ false)) ⊤ stop →
    IsPlanStop IsTold (MayStop p quiet turns) ⊤ stop
crowd_reason IsTold p quiet left pieces turns (Stopped not_before) taken sum h = (all_taken p quiet left pieces turns taken sum h.0, h.1)
crowd_reason IsTold p quiet left pieces turns Memory taken sum h = tt
crowd_reason IsTold p quiet left pieces turns NoThread taken sum h = tt

pub crowd_stop : (p : Project) (terms : Terms) (quiet : Bool) (left pieces turns : ℕ) (steps : List Step) (stop : PlanStop) → HaveTaken p quiet pieces → left + pieces ≡ turns → IsCurveStop p terms ((left ≡ 0) ⊎ (quiet ≡ false)) ⊤ steps stop →
    IsCurveStop p terms (MayStop p quiet turns) ⊤ steps stop
crowd_stop p terms quiet left pieces turns steps stop taken sum h = record {
  are_steps = h.are_steps;
  reason = crowd_reason (AreNotAfterEnough p terms (first_deadline (terms.deadline + 1) steps)) p quiet left pieces turns stop taken sum h.reason;
}

-- what an asker with workers answers, as workers tell it
pub crew_end : (p : Project) (terms : Terms) (quiet : Bool) (left pieces turns : ℕ) (result : Result CurveAnswer CurveStop) → HaveTaken p quiet pieces → left + pieces ≡ turns → IfOk result (IsCurveAnswer p terms) →
    IfErr result (λ end. IsCurveStop p terms ((left ≡ 0) ⊎ (quiet ≡ false)) ⊤ end.steps.items end.stop) → IsFollowedByCrew p terms (MayStop p quiet turns) result
crew_end p terms quiet left pieces turns (Ok answer) taken sum curve stop = curve
crew_end p terms quiet left pieces turns (Err end) taken sum curve stop = crowd_stop p terms quiet left pieces turns end.steps.items end.stop taken sum stop

-- which is the curve, or why it ended early
pub crew_curve : (p : Project) (terms : Terms) (may_stop : Type 0) (result : Result CurveAnswer CurveStop) → IsFollowedByCrew p terms may_stop result → IfOk result (IsCurveAnswer p terms)
crew_curve p terms may_stop (Ok answer) h = h
crew_curve p terms may_stop (Err end) h = tt

pub crew_stop : (p : Project) (terms : Terms) (may_stop : Type 0) (result : Result CurveAnswer CurveStop) → IsFollowedByCrew p terms may_stop result → IfErr result (λ end. IsCurveStop p terms may_stop ⊤ end.steps.items end.stop)
crew_stop p terms may_stop (Ok answer) h = tt
crew_stop p terms may_stop (Err end) h = h

-- of each deadline from the first step on, up to the order's, a step tells the plan's capacities
step_tells : (p : Project) (terms : Terms) (steps : List Step) (deadline : ℕ) → AreSteps p terms steps → first_deadline (terms.deadline + 1) steps ≤ deadline → deadline ≤ terms.deadline →
    (step : Step) × Contains steps step × (step.deadline ≤ deadline) × ArePlanned p (order_by deadline terms) step.capacities
step_tells p terms [] deadline are from to = absurd (omega (arith, from, to))
step_tells p terms (step ∷ rest) deadline are from to = elim (cases_lt deadline (first_deadline (terms.deadline + 1) rest)) [
  | inl before ↦ (step, member_first step rest step refl, from, are.0.planned deadline from before)
  | inr behind ↦
      let found = step_tells p terms rest deadline are.2 behind to in
      (found.0, member_later step rest found.0 found.1, found.2, found.3)
]

pub curve_tells : (p : Project) (terms : Terms) (steps : List Step) (deadline : ℕ) → IsCurve p terms steps → deadline ≤ terms.deadline →
    NoneIsEnough p (order_by deadline terms) ⊎ ((step : Step) × Contains steps step × (step.deadline ≤ deadline) × ArePlanned p (order_by deadline terms) step.capacities)
curve_tells p terms steps deadline curve to = elim (cases_lt deadline (first_deadline (terms.deadline + 1) steps)) [
  | inl before ↦ inl (curve.none deadline before)
  | inr behind ↦ inr (step_tells p terms steps deadline curve.are_steps behind to)
]
