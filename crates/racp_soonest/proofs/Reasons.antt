-- Where an answer is no plan, no capacities are enough.
use Rattle.std.proofs.Common.{ℕ, ◌+◌, ◌≤◌, List, [], ◌∷◌, slice_index, arith}
use Rattle.std.specs.List.{sum_by}
use Rattle.std.proofs.lemmas.List.Sums.{sum_by-cons}
use Rattle.racp_model.specs.Project.{Project, IsSound, duration}
use Rattle.racp_model.specs.Schedule.{KeepsPrecedence, EndsBy, IsInTime}
use Rattle.racp_model.specs.Path.{IsChain, span}
use Rattle.racp_model.specs.Terms.{Terms, release_of, due_of}
use Rattle.racp_model.specs.Plan.{IsTooLong, IsTooLateAt, NoneIsEnough}
use Rattle.racp_model.proofs.lemmas.Arcs.{precedes_in}
use Rattle.racp_lexfix.specs.Answers.{IsAnswer}
use Rattle.racp_lexfix.specs.declared.answer.Answer.{Answer}
use Rattle.racp_lexfix.specs.declared.answer.Answer.TheVariants.{Plan as ThePlan, Impossible, Due, Ceiling}
use Rattle.racp_curve.specs.Following.{plan_in, IsPlanOrNone}

module _ (p : Project) (terms : Terms) (sound : IsSound p) where
  -- in starts that keep precedence and end by the deadline no chain ends after it
  chain_within : (starts : List ℕ) → KeepsPrecedence p starts → EndsBy p (due_of terms) starts → (i : ℕ) (rest : List ℕ) → IsChain p (i ∷ rest) → slice_index starts i + sum_by (duration p) (i ∷ rest) ≤ terms.deadline
  chain_within starts keeps ends i [] h = omega (arith, sum_by-cons (duration p) i [], ends i h)
  chain_within starts keeps ends i (j ∷ rest) h = omega (arith, sum_by-cons (duration p) i (j ∷ rest), chain_within starts keeps ends j rest h.1, keeps i j h.0)

  span_within : (starts : List ℕ) → KeepsPrecedence p starts → IsInTime p (release_of terms) (due_of terms) starts → (chain : List ℕ) → IsChain p chain → span p (release_of terms) chain ≤ terms.deadline
  span_within starts keeps in_time [] h = absurd h
  span_within starts keeps in_time (i ∷ []) h = omega (arith, chain_within starts keeps in_time.ends i [] h, in_time.released i h)
  span_within starts keeps in_time (i ∷ (j ∷ rest)) h = omega (arith, chain_within starts keeps in_time.ends i (j ∷ rest) h, in_time.released i (precedes_in p i j sound h.0).0)

  -- where the critical length exceeds the deadline, none are enough
  pub none_long : (critical : ℕ) → IsTooLong p terms critical → NoneIsEnough p terms
  none_long critical long capacities e =
      let fits = e.admits.1 in
      omega (arith, long.exceeds, long.length.some.2, span_within e.admits.0 fits.fits.precedence fits.in_time long.length.some.0 long.length.some.1)

  -- and where an early finish exceeds a due time
  pub none_late : (i : ℕ) → IsTooLateAt p terms i → NoneIsEnough p terms
  none_late i late capacities e =
      let fits = e.admits.1 in
      omega (arith, late.late.2.late, late.late.1.least e.admits.0 fits.in_time.released fits.fits.precedence i late.late.2.job, fits.in_time.ends i late.late.2.job)

  -- so of an answer: the plan, or none are enough
  pub plan_or_none : (answer : Answer) → IsAnswer p terms answer → IsPlanOrNone p terms (plan_in answer)
  plan_or_none (ThePlan plan) is = is
  plan_or_none (Impossible longest) is = none_long longest is
  plan_or_none (Due job) is = none_late is.0 is.2
  plan_or_none Ceiling is = is.none
