-- An order has one answer at most.
use Rattle.std.proofs.Common.{◌≡◌, ◌∙◌, ℕ, ◌+◌, ◌<◌, ◌≤◌, inl, inr, List, [], ◌∷◌, slice_index, refl, sym, ap, arith}
use Rattle.std.specs.List.{sum_by}
use Rattle.std.proofs.lemmas.Bool.{cases_lt}
use Rattle.std.proofs.lemmas.List.Sums.{sum_by-cons}
use Rattle.racp_model.specs.Project.{Project, IsSound, duration, number}
use Rattle.racp_model.specs.Schedule.{KeepsPrecedence, EndsBy, IsInTime, FitsInTime}
use Rattle.racp_model.specs.Path.{IsChain, span, IsCriticalLength}
use Rattle.racp_model.specs.Terms.{Terms, release_of, due_of}
use Rattle.racp_model.specs.Plan.{IsTooLong, IsTooLateAt, IsOverCeilings}
use Rattle.racp_model.proofs.lemmas.Arcs.{precedes_in}
use Rattle.racp_model.proofs.lemmas.Orders.{plan_unique}
use Rattle.racp_plan.specs.declared.plan.Plan.{Plan}
use Rattle.racp_plan.specs.Plans.{IsPlanOf}
use Rattle.racp_lexfix.specs.declared.answer.Answer.TheVariants.{Plan as ThePlan, Impossible, Due, Ceiling}
use Rattle.racp_lexfix.specs.Laws.{AnswerIsOne}

module _ (p : Project) (terms : Terms) (sound : IsSound p) where
  -- in starts that keep precedence and end by the deadline no chain ends after it
  chain_within : (starts : List ℕ) → KeepsPrecedence p starts → EndsBy p (due_of terms) starts → (i : ℕ) (rest : List ℕ) → IsChain p (i ∷ rest) →
      slice_index starts i + sum_by (duration p) (i ∷ rest) ≤ terms.deadline
  chain_within starts keeps ends i [] h = omega (arith, sum_by-cons (duration p) i [], ends i h)
  chain_within starts keeps ends i (j ∷ rest) h = omega (arith, sum_by-cons (duration p) i (j ∷ rest), chain_within starts keeps ends j rest h.1, keeps i j h.0)

  pub span_within : (starts : List ℕ) → KeepsPrecedence p starts → IsInTime p (release_of terms) (due_of terms) starts → (chain : List ℕ) → IsChain p chain → span p (release_of terms) chain ≤ terms.deadline
  span_within starts keeps in_time [] h = absurd h
  span_within starts keeps in_time (i ∷ []) h = omega (arith, chain_within starts keeps in_time.ends i [] h, in_time.released i h)
  span_within starts keeps in_time (i ∷ (j ∷ rest)) h = omega (arith, chain_within starts keeps in_time.ends i (j ∷ rest) h, in_time.released i (precedes_in p i j sound h.0).0)

  -- so the critical length does not exceed it
  pub not_long : (starts : List ℕ) → KeepsPrecedence p starts → IsInTime p (release_of terms) (due_of terms) starts → (critical : ℕ) → IsTooLong p terms critical → ⊥
  not_long starts keeps in_time critical long =
      omega (arith, long.exceeds, long.length.some.2, span_within starts keeps in_time long.length.some.0 long.length.some.1)

  -- and no early start is late
  pub not_late : (starts : List ℕ) → KeepsPrecedence p starts → IsInTime p (release_of terms) (due_of terms) starts → (i : ℕ) → IsTooLateAt p terms i → ⊥
  not_late starts keeps in_time i late =
      omega (arith, late.late.2.late, late.late.1.least starts in_time.released keeps i late.late.2.job, in_time.ends i late.late.2.job)

  -- what is known of the starts of a plan, and of the early starts where the ceilings are the reason
  early_in_time : (over : IsOverCeilings p terms) → IsInTime p (release_of terms) (due_of terms) over.in_time.0
  early_in_time over = record { released = over.in_time.1.above; ends = over.in_time.2 }

  -- a plan and a reason
  plan_long : (plan : Plan) (critical : ℕ) → IsPlanOf p terms plan → IsTooLong p terms critical → ⊥
  plan_long plan critical h long =
      let fits : FitsInTime p (release_of terms) (due_of terms) plan.capacities plan.starts = h.is_plan.schedule.is in
      not_long plan.starts fits.fits.precedence fits.in_time critical long

  plan_late : (plan : Plan) (i : ℕ) → IsPlanOf p terms plan → IsTooLateAt p terms i → ⊥
  plan_late plan i h late =
      let fits : FitsInTime p (release_of terms) (due_of terms) plan.capacities plan.starts = h.is_plan.schedule.is in
      not_late plan.starts fits.fits.precedence fits.in_time i late

  plan_over : (plan : Plan) → IsPlanOf p terms plan → IsOverCeilings p terms → ⊥
  plan_over plan h over = over.none plan.capacities h.is_plan.vector.is

  -- two reasons
  over_long : (critical : ℕ) → IsOverCeilings p terms → IsTooLong p terms critical → ⊥
  over_long critical over long = not_long over.in_time.0 over.in_time.1.precedence (early_in_time over) critical long

  over_late : (i : ℕ) → IsOverCeilings p terms → IsTooLateAt p terms i → ⊥
  over_late i over late = not_late over.in_time.0 over.in_time.1.precedence (early_in_time over) i late

  -- there is one critical length
  pub one_length : (a b : ℕ) → IsCriticalLength p (release_of terms) a → IsCriticalLength p (release_of terms) b → a ≡ b
  one_length a b h k = omega (arith, k.most h.some.0 h.some.1, h.some.2, h.most k.some.0 k.some.1, k.some.2)

  -- one job is the first late one
  no_earlier : (i j : ℕ) → IsTooLateAt p terms i → IsTooLateAt p terms j → i < j → ⊥
  no_earlier i j h k less =
      omega (arith, h.late.2.late, k.late.2.first i less, h.late.1.least k.late.0 k.late.1.above k.late.1.precedence i h.late.2.job)

  one_job : (i j : ℕ) → IsTooLateAt p terms i → IsTooLateAt p terms j → i ≡ j
  one_job i j h k = elim (cases_lt i j) [
    | inl less ↦ absurd (no_earlier i j h k less)
    | inr more ↦ elim (cases_lt j i) [
      | inl less ↦ absurd (no_earlier j i k h less)
      | inr least ↦ omega (arith, more, least)
    ]
  ]

  -- and there is one plan, with all that is told of it
  one_plan : (a b : Plan) → IsPlanOf p terms a → IsPlanOf p terms b → a ≡ b
  one_plan a b h k =
      let both = plan_unique p terms a.capacities b.capacities a.starts b.starts h.is_plan k.is_plan in
      let deadline : a.deadline ≡ b.deadline = h.deadline ∙ sym k.deadline in
      let critical : a.critical ≡ b.critical = one_length a.critical b.critical h.critical k.critical in
      let price : a.cost ≡ b.cost = h.cost ∙ (ap (Rattle.racp_model.specs.Terms.cost terms) both.0 ∙ sym k.cost) in
      λ i. record { deadline = deadline i; critical = critical i; cost = price i; capacities = both.0 i; starts = both.1 i }

pub one_answer : AnswerIsOne
one_answer p terms (ThePlan a) (ThePlan b) sound h k = ap ThePlan (one_plan p terms sound a b h k)
one_answer p terms (ThePlan a) (Impossible b) sound h k = absurd (plan_long p terms sound a b h k)
one_answer p terms (ThePlan a) (Due b) sound h k = absurd (plan_late p terms sound a k.0 h k.2)
one_answer p terms (ThePlan a) Ceiling sound h k = absurd (plan_over p terms sound a h k)
one_answer p terms (Impossible a) (ThePlan b) sound h k = absurd (plan_long p terms sound b a k h)
one_answer p terms (Impossible a) (Impossible b) sound h k = ap Impossible (one_length p terms sound a b h.length k.length)
one_answer p terms (Impossible a) (Due b) sound h k = absurd (k.2.not_long a h)
one_answer p terms (Impossible a) Ceiling sound h k = absurd (over_long p terms sound a k h)
one_answer p terms (Due a) (ThePlan b) sound h k = absurd (plan_late p terms sound b h.0 k h.2)
one_answer p terms (Due a) (Impossible b) sound h k = absurd (h.2.not_long b k)
one_answer p terms (Due a) (Due b) sound h k = ap Due (sym h.1 ∙ (ap number (one_job p terms sound h.0 k.0 h.2 k.2) ∙ k.1))
one_answer p terms (Due a) Ceiling sound h k = absurd (over_late p terms sound h.0 k h.2)
one_answer p terms Ceiling (ThePlan b) sound h k = absurd (plan_over p terms sound b k h)
one_answer p terms Ceiling (Impossible b) sound h k = absurd (over_long p terms sound b h k)
one_answer p terms Ceiling (Due b) sound h k = absurd (over_late p terms sound k.0 h k.2)
one_answer p terms Ceiling Ceiling sound h k = refl
