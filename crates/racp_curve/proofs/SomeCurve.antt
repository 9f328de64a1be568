-- An order has a curve, or a reason why there is no plan: the curve is followed back from the order's deadline.
use Rattle.std.proofs.Common.{◌≡◌, ◌≢◌, ◌⊎◌, ℕ, zero, suc, ◌+◌, ◌≤◌, List, [], ◌∷◌, Option, Some, None, inl, inr, refl, subst, arith}
use Rattle.std.proofs.lemmas.Bool.{cases_lt}
use Rattle.racp_model.specs.Project.{Project, IsSound}
use Rattle.racp_model.specs.Terms.{Terms, AreTermsOf, cost}
use Rattle.racp_model.specs.Plan.{IsEnough, NoneIsEnough}
use Rattle.racp_model.proofs.lemmas.Tested.{enough_decided}
use Rattle.racp_plan.specs.declared.plan.Plan.{Plan}
use Rattle.racp_lexfix.specs.Answers.{IsAnswer}
use Rattle.racp_lexfix.specs.Laws.{AnswerExists, IsNoPlan}
use Rattle.racp_lexfix.specs.declared.answer.Answer.{Answer}
use Rattle.racp_lexfix.specs.declared.answer.Answer.TheVariants.{Plan as ThePlan, Impossible, Due, Ceiling}
use Rattle.racp_curve.specs.declared.step.Step.{Step}
use Rattle.racp_curve.specs.Curves.{order_by, ArePlanned, first_deadline, AreOthersThanFirst, AreSteps, IsCurve}
use Rattle.racp_curve.specs.Following.{IsPlanOrNone, plan_in}
use Rattle.racp_curve.specs.Laws.{CurveExists}
use Rattle.racp_curve.proofs.Deadlines.{none_sooner, planned_between, terms_by}
use Rattle.racp_curve.proofs.Growing.{curve_some, first_within}
use Rattle.racp_curve.proofs.Reasons.{plan_or_none}

module _ (p : Project) (terms : Terms) where
  -- steps of which the first begins at a deadline
  abbrev pub AreFrom : ℕ → List Step → Type 0
  AreFrom begin steps = AreSteps p terms steps × (first_deadline (terms.deadline + 1) steps ≡ begin)

  abbrev pub HasCurve : Type 0
  HasCurve = (steps : List Step) × IsCurve p terms steps

  abbrev pub HasStepsFrom : ℕ → Type 0
  HasStepsFrom begin = (steps : List Step) × AreFrom begin steps

  -- a step whose capacities are enough for the deadline before it is as good from there on
  longer : (begin : ℕ) (step : Step) (rest : List Step) → step.deadline ≡ begin + 1 → AreSteps p terms (step ∷ rest) → IsEnough p (order_by begin terms) step.capacities → HasStepsFrom begin
  longer begin step rest same are e = (
    record { deadline = begin; cost = step.cost; capacities = step.capacities } ∷ rest,
    (
      (
        record {
          some = omega (arith, same, are.0.some);
          planned = λ deadline from to. elim (cases_lt deadline step.deadline) [
            | inl before ↦ planned_between p terms begin deadline step.deadline step.capacities from (omega (arith, before)) (are.0.planned step.deadline (omega arith) are.0.some) e
            | inr behind ↦ are.0.planned deadline behind to
          ];
          priced = are.0.priced;
        },
        are.1,
        are.2,
      ),
      refl,
    ),
  )

  -- else the plan for that deadline is a further step
  further : (begin : ℕ) (steps : List Step) (capacities : List ℕ) → AreFrom (begin + 1) steps → AreOthersThanFirst capacities steps → ArePlanned p (order_by begin terms) capacities → HasStepsFrom begin
  further begin steps capacities h others planned = (
    record { deadline = begin; cost = cost terms capacities; capacities = capacities } ∷ steps,
    (
      (
        record {
          some = omega (arith, h.1);
          planned = λ deadline from to. planned_between p terms begin deadline begin capacities from (omega (arith, to, h.1)) planned planned.is;
          priced = refl;
        },
        others,
        h.0,
      ),
      refl,
    ),
  )

  -- or there is no plan for it, and the curve is whole
  whole : (begin : ℕ) (steps : List Step) → AreFrom (begin + 1) steps → NoneIsEnough p (order_by begin terms) → HasCurve
  whole begin steps h none = (steps, record { are_steps = h.0; none = λ deadline l. none_sooner p terms deadline begin (omega (arith, l, h.1)) none })

  module _ (sound : IsSound p) (t : AreTermsOf p terms) (answers : AnswerExists) where
    planned_or_none : (deadline : ℕ) (found : Option Plan) → IsPlanOrNone p (order_by deadline terms) found → ((capacities : List ℕ) × ArePlanned p (order_by deadline terms) capacities) ⊎ NoneIsEnough p (order_by deadline terms)
    planned_or_none deadline (Some plan) is = inl (plan.capacities, is.is_plan.vector)
    planned_or_none deadline None is = inr is

    planned_by : (deadline : ℕ) → deadline ≤ terms.deadline → ((capacities : List ℕ) × ArePlanned p (order_by deadline terms) capacities) ⊎ NoneIsEnough p (order_by deadline terms)
    planned_by deadline l =
        let answer = answers p (order_by deadline terms) sound (terms_by p terms deadline l t) in
        planned_or_none deadline (plan_in answer.0) (plan_or_none p (order_by deadline terms) sound answer.0 answer.1)

    -- one deadline further back
    one_back : (begin : ℕ) (steps : List Step) → AreFrom (begin + 1) steps → HasCurve ⊎ HasStepsFrom begin
    one_back begin [] h = elim (planned_by begin (omega (arith, h.1))) [
      | inl plan ↦ inr (further begin [] plan.0 h tt plan.1)
      | inr none ↦ inl (whole begin [] h none)
    ]
    one_back begin (step ∷ rest) h = elim (enough_decided p sound (order_by begin terms) step.capacities) [
      | inl enough ↦ inr (longer begin step rest h.1 h.0 enough)
      | inr not ↦ elim (planned_by begin (omega (arith, h.1, first_within p terms (step ∷ rest) h.0))) [
        | inl plan ↦ inr (further begin (step ∷ rest) plan.0 h (λ same. not (subst (IsEnough p (order_by begin terms)) same plan.1.is)) plan.1)
        | inr none ↦ inl (whole begin (step ∷ rest) h none)
      ]
    ]

    -- down to the deadline 0
    all_back : (begin : ℕ) → HasStepsFrom begin → HasCurve
    all_back zero from = (from.0, record { are_steps = from.1.0; none = λ deadline l. absurd (omega (arith, l, from.1.1)) })
    all_back (suc begin) from = elim (one_back begin from.0 (from.1.0, omega (arith, from.1.1))) [
      | inl curve ↦ curve
      | inr more ↦ all_back begin more
    ]

    has_curve : HasCurve
    has_curve = all_back (terms.deadline + 1) ([], (tt, refl))

    -- and where there is a plan for the order's own deadline, the curve has a step
    by_answer : (answer : Answer) → IsAnswer p terms answer → ((steps : List Step) × IsCurve p terms steps × (steps ≢ [])) ⊎ ((answer : Answer) × IsAnswer p terms answer × IsNoPlan answer)
    by_answer (ThePlan plan) is = inl (has_curve.0, has_curve.1, curve_some p terms has_curve.0 plan.capacities has_curve.1 is.is_plan.vector.is)
    by_answer (Impossible longest) is = inr (Impossible longest, is, tt)
    by_answer (Due job) is = inr (Due job, is, tt)
    by_answer Ceiling is = inr (Ceiling, is, tt)

pub some_curve : AnswerExists → CurveExists
some_curve answers p terms sound t =
    let answer = answers p terms sound t in
    by_answer p terms sound t answers answer.0 answer.1
