-- Where there is no plan; on plain terms by the critical length.
use Rattle.std.proofs.Common.{ℕ, ◌<◌, ◌≤◌, inl, inr, List, length, slice_index, Option, IfSome, sym, subst, arith}
use Rattle.racp_model.specs.Project.{Project, IsSound}
use Rattle.racp_model.specs.Schedule.{EndsBy, FitsInTime, roof}
use Rattle.racp_model.specs.Path.{IsEarly, IsCriticalLength}
use Rattle.racp_model.specs.Terms.{Terms, AreTermsOf, release_of, due_of}
use Rattle.racp_model.specs.Plan.{IsEnough, IsPlan, IsTooLateAt, IsOverCeilings}
use Rattle.racp_model.proofs.lemmas.Lists.{row, row_places, row-at}
use Rattle.racp_model.proofs.lemmas.Usage.{usage-roof}
use Rattle.racp_cpm.specs.Laws.{CriticalIsGreatestFinish}
use Rattle.racp_cpm.proofs.lemmas.SomeEarly.{some_early}
use Rattle.racp_lexfix.specs.declared.answer.Answer.TheVariants.{Plan as ThePlan, Impossible, Due, Ceiling}
use Rattle.racp_lexfix.specs.Laws.{IsPlain, ImpossibleIsNoPlan, ImpossibleIsByLength, PlanIsByLength}
use Rattle.racp_lexfix.proofs.OneAnswer.{span_within, not_long, not_late, one_length}
use Rattle.racp_lexfix.proofs.Existing.{plan_or_none}

-- an answer is no plan exactly where there is none
pub no_plan : ImpossibleIsNoPlan
no_plan p terms (ThePlan plan) sound h = (λ not. absurd not, λ none. none plan.capacities plan.starts h.is_plan)
no_plan p terms (Impossible longest) sound h = (
  λ _ capacities starts plan.
      let fits : FitsInTime p (release_of terms) (due_of terms) capacities starts = plan.schedule.is in
      not_long p terms sound starts fits.fits.precedence fits.in_time longest h,
  λ _. tt,
)
no_plan p terms (Due job) sound h = (
  λ _ capacities starts plan.
      let fits : FitsInTime p (release_of terms) (due_of terms) capacities starts = plan.schedule.is in
      not_late p terms sound starts fits.fits.precedence fits.in_time h.0 h.2,
  λ _. tt,
)
no_plan p terms Ceiling sound h = (λ _ capacities starts plan. h.none capacities plan.vector.is, λ _. tt)

-- the roofs as a vector
pub roofs_of : Project → List ℕ
roofs_of p = row p.resources (roof p)

-- early starts in time fit the roofs, which without ceilings are enough
pub roofs_enough : (p : Project) (terms : Terms) (early : List ℕ) → IsPlain p terms → IsEarly p (release_of terms) early → EndsBy p (due_of terms) early → IsEnough p terms (roofs_of p)
unfolding roofs_of
roofs_enough p terms early plain h ends = record {
  places = row_places p.resources (roof p);
  ceilings = subst (λ (ceilings : Option (List ℕ)). IfSome ceilings (λ most. (k : ℕ) → k < length (row p.resources (roof p)) → slice_index (row p.resources (roof p)) k ≤ slice_index most k)) (sym plain.ceilings) tt;
  admits = (
    early,
    record {
      places = h.places;
      in_time = record { released = h.above; ends = ends };
      fits = record { precedence = h.precedence; within = λ k t l. omega (arith, usage-roof p early k t, row-at p.resources (roof p) k l) };
    },
  );
}

module _ (finish : CriticalIsGreatestFinish) (p : Project) (terms : Terms) (critical : ℕ) (sound : IsSound p) (plain : IsPlain p terms) (c : IsCriticalLength p (release_of terms) critical) where
  -- no early finish is after the critical length
  ends_by : (early : List ℕ) → IsEarly p (release_of terms) early → EndsBy p (λ _. critical) early
  ends_by early h = ((finish p (release_of terms) early critical sound h).0 c).most

  -- so on plain terms a job is late only where the critical length exceeds the deadline
  late_long : (i : ℕ) → IsTooLateAt p terms i → terms.deadline < critical
  late_long i late = omega (arith, late.late.2.late, ends_by late.late.0 late.late.1 i late.late.2.job, plain.due i late.late.2.job)

  -- and the ceilings are never the reason
  never_over : IsOverCeilings p terms → ⊥
  never_over over = over.none (roofs_of p) (roofs_enough p terms over.in_time.0 plain over.in_time.1 over.in_time.2)

  -- a plan shows that the critical length does not exceed the deadline
  plan_short : (capacities starts : List ℕ) → IsPlan p terms capacities starts → critical ≤ terms.deadline
  plan_short capacities starts plan =
      let fits : FitsInTime p (release_of terms) (due_of terms) capacities starts = plan.schedule.is in
      omega (arith, c.some.2, span_within p terms sound starts fits.fits.precedence fits.in_time c.some.0 c.some.1)

  -- and where it does not, there is a plan
  short_plan : AreTermsOf p terms → critical ≤ terms.deadline → (capacities : List ℕ) × (starts : List ℕ) × IsPlan p terms capacities starts
  short_plan t short =
      let early = some_early p sound (release_of terms) 10000000 (λ i l. t.release i 0 (omega (arith, l, t.release_places))) in
      let ends : EndsBy p (due_of terms) early.0 = λ i l. omega (arith, ends_by early.0 early.1 i l, plain.due i l, short) in
      elim (plan_or_none p terms sound t) [
        | inl plan ↦ plan
        | inr none ↦ absurd (none (roofs_of p) (roofs_enough p terms early.0 plain early.1 ends))
      ]

-- on plain terms an answer is no plan exactly where the critical length exceeds the deadline
pub no_plan_by_length : CriticalIsGreatestFinish → ImpossibleIsByLength
no_plan_by_length finish p terms critical (ThePlan plan) sound plain c h = (
  λ not. absurd not,
  λ long. omega (arith, long, plan_short finish p terms critical sound plain c plan.capacities plan.starts h.is_plan),
)
no_plan_by_length finish p terms critical (Impossible longest) sound plain c h = (λ _. omega (arith, h.exceeds, one_length p terms sound critical longest c h.length), λ _. tt)
no_plan_by_length finish p terms critical (Due job) sound plain c h = (λ _. late_long finish p terms critical sound plain c h.0 h.2, λ _. tt)
no_plan_by_length finish p terms critical Ceiling sound plain c h = (λ _. absurd (never_over finish p terms critical sound plain c h), λ _. tt)

-- and there is a plan exactly where it does not
pub plan_by_length : CriticalIsGreatestFinish → PlanIsByLength
plan_by_length finish p terms critical sound t plain c = (
  λ plan. plan_short finish p terms critical sound plain c plan.0 plan.1 plan.2,
  λ short. short_plan finish p terms critical sound plain c t short,
)
