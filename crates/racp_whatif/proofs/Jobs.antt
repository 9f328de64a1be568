-- The jobs of a need.
use Rattle.std.proofs.Common.{◌≡◌, ◌∙◌, ℕ, ◌+◌, ◌-◌, ◌*◌, ◌<◌, ◌≤◌, inl, inr, List, [], ◌∷◌, ◌++◌, All, AllPairs, length, slice_index, get_or, sum_by, arith, ap, subst, sym}
use Rattle.std.specs.Int.{div_ceil}
use Rattle.std.proofs.Math.Nat.{mul-le-mul_right}
use Rattle.std.proofs.lemmas.Bool.{cases_lt}
use Rattle.std.proofs.lemmas.Grind.{div_ceil_times}
use Rattle.std.proofs.lemmas.List.Elements.{All-push}
use Rattle.std.proofs.lemmas.List.Quantifiers.{all_pairs_push}
use Rattle.std.proofs.lemmas.List.Sums.{sum_by-cons, sum_by_push}
use Rattle.racp_model.specs.Project.{Project, IsNumber, place, number, duration, request}
use Rattle.racp_model.specs.Schedule.{IsActive, sum_below, use_of}
use Rattle.racp_model.specs.Window.{Bounds}
use Rattle.racp_model.proofs.lemmas.Sums.{sum_below-step, sum_below-none}
use Rattle.racp_model.proofs.lemmas.Usage.{use_of-active}
use Rattle.racp_clauses.specs.Rules.{least_work}
use Rattle.racp_clauses.specs.Uses.{LeastWorkIsDone}
use Rattle.racp_whatif.specs.Needs.{usage_by, UsesSome}
use Rattle.racp_whatif.specs.Within.{AreWorkers, IsAbove, IsNeedIn, IsOver}
use Rattle.racp_whatif.specs.declared.need.Need.{Need}
use Rattle.racp_whatif.specs.declared.work.Work.{Work}
use Rattle.racp_whatif.proofs.Works.{done_together, some-more}

-- the place of a number
place-number : (i : ℕ) → place (number i) ≡ i
place-number i = omega arith

module _ (p : Project) (window : Bounds) (k a b : ℕ) where
  -- at first no job has a part in the work
  pub no_worker : AreWorkers p window k a b 0 []
  no_worker = record {
    named = λ q d l. absurd (omega (arith, l));
    rising = λ i j d less l. absurd (omega (arith, l));
    parts = λ q d l. absurd (omega (arith, l));
    amount = omega (arith, sum_below-none (least_work p window k a b));
  }

  -- the next job has none
  pub worker-passed : (i : ℕ) (jobs : List ℕ) → least_work p window k a b i ≤ 0 → AreWorkers p window k a b i jobs → AreWorkers p window k a b (i + 1) jobs
  worker-passed i jobs none h = record {
    named = λ q d l. let at = h.named q d l in (at.0, omega (arith, at.1));
    rising = h.rising;
    parts = h.parts;
    amount = omega (arith, h.amount, none, sum_below-step i (least_work p window k a b));
  }

  -- the next job has one
  pub worker-added : (i : ℕ) (jobs all : List ℕ) → all ≡ jobs ++ number i ∷ [] → 0 < least_work p window k a b i → AreWorkers p window k a b i jobs → AreWorkers p window k a b (i + 1) all
  worker-added i jobs all same some h =
      let work : ℕ → ℕ = λ job. least_work p window k a b (place job) in
      let named : All (IsNumber (i + 1)) jobs = λ q d l. let at = h.named q d l in (at.0, omega (arith, at.1)) in
      subst (AreWorkers p window k a b (i + 1)) (sym same) (record {
        named = All-push (IsNumber (i + 1)) jobs (number i) named (omega arith, omega arith);
        rising = all_pairs_push ◌<◌ jobs (number i) h.rising (λ q d l. let at = h.named q d l in omega (arith, at.1));
        parts = All-push (λ job. 0 < work job) jobs (number i) h.parts (omega (arith, some, ap (least_work p window k a b) (place-number i)));
        amount = omega (arith, h.amount, sum_by_push work jobs (number i), ap (least_work p window k a b) (place-number i), sum_below-step i (least_work p window k a b));
      })

-- a product is less where one factor is
factor-less : (c d m : ℕ) → c * m < d * m → c < d
factor-less c d m less = elim (cases_lt c d) [ inl is ↦ is | inr not ↦ absurd (omega (arith, less, mul-le-mul_right {m = d} {n = c} m not)) ]

-- work over the times, rounded up, is more than units that cannot do it, and one unit less cannot
rounded : (units amount span : ℕ) → 0 < span → units * span < amount → (c : ℕ) × (div_ceil amount span ≡ c + 1) × (c * span < amount) × (units < div_ceil amount span)
rounded units amount span some more =
    let up = div_ceil_times amount span some in
    let less : units < div_ceil amount span = factor-less units (div_ceil amount span) span (omega (arith, more, up.0)) in
    let c : ℕ = div_ceil amount span - 1 in
    let next : div_ceil amount span ≡ c + 1 = omega (arith, less) in
    let times : div_ceil amount span * span ≡ c * span + span = ap (λ (n : ℕ). n * span) next ∙ omega arith in
    (c, next, omega (arith, times, up.1), less)

-- so the jobs that do the work need as many units
pub work-above : (p : Project) (window : Bounds) (ceilings : List ℕ) (k : ℕ) (work : Work) (jobs : List ℕ) (need : Need) → LeastWorkIsDone → k < p.resources → IsOver p window k (slice_index ceilings k) work →
    AreWorkers p window k work.times.from work.times.until (length p.jobs) jobs → need.place ≡ k → need.units ≡ div_ceil work.amount (work.times.until - work.times.from) → need.from ≡ work.times.from →
    need.until ≡ work.times.until → need.jobs.items ≡ jobs → IsAbove p window ceilings need
work-above p window ceilings k work jobs need law resource over workers at units from until are =
    let a : ℕ = work.times.from in
    let span : ℕ = work.times.until - a in
    let end : a + span ≡ work.times.until = omega (arith, over.some) in
    let c = rounded (slice_index ceilings k) work.amount span (omega (arith, over.some)) over.more in
    let is : IsNeedIn p window need = record {
      resource = omega (arith, at, resource);
      named = subst (All (IsNumber (length p.jobs))) (sym are) workers.named;
      rising = subst (AllPairs ◌<◌) (sym are) workers.rising;
      used = λ starts lies.
          let P : ℕ → Type 0 = λ until. sum_by (λ job. least_work p window k a until (place job)) jobs ≤ sum_below span (λ u. usage_by p starts k (a + u) jobs) in
          let done = subst P end (done_together p window starts k a span law lies jobs workers.named) in
          let found = some-more span c.0 (λ u. usage_by p starts k (a + u) jobs) (omega (arith, c.2, over.amount, workers.amount, done)) in
          let same : usage_by p starts need.place (a + found.0) need.jobs.items ≡ usage_by p starts k (a + found.0) jobs =
          ap (λ (q : ℕ). usage_by p starts q (a + found.0) need.jobs.items) at ∙ ap (usage_by p starts k (a + found.0)) are in
          (a + found.0, omega (arith, from), omega (arith, found.1, until, end), omega (arith, same, found.2, units, c.1));
      each = λ starts lies.
          subst (All (UsesSome p starts need)) (sym are) (λ q d l.
          let job : ℕ = get_or jobs q d in
          let is = workers.named q d l in
          let Q : ℕ → Type 0 = λ until. least_work p window k a until (place job) ≤ sum_below span (λ u. use_of p starts k (a + u) (place job)) in
          let done = subst Q end (law p window starts k a span (place job) lies (omega (arith, is.0, is.1))) in
          let found = some-more span 0 (λ u. use_of p starts k (a + u) (place job)) (omega (arith, workers.parts q d l, done)) in
          (a + found.0, omega (arith, from), omega (arith, found.1, until, end), omega (arith, found.2, ap (λ (q : ℕ). use_of p starts q (a + found.0) (place job)) at)));
    } in
    record { is = is; above = omega (arith, ap (slice_index ceilings) at, units, c.3) }

-- a job that runs for some time needs its request
pub request-above : (p : Project) (window : Bounds) (ceilings : List ℕ) (k i : ℕ) (jobs : List ℕ) (need : Need) → k < p.resources → i < length p.jobs → 0 < duration p i → slice_index ceilings k < request p i k →
    jobs ≡ [] ++ number i ∷ [] → need.place ≡ k → need.units ≡ request p i k → need.from ≡ slice_index window.lower i → need.until ≡ slice_index window.upper i + duration p i → need.jobs.items ≡ jobs →
    IsAbove p window ceilings need
request-above p window ceilings k i jobs need resource job runs more single at units from until are =
    let only : need.jobs.items ≡ number i ∷ [] = are ∙ single in
    let is : IsNeedIn p window need = record {
      resource = omega (arith, at, resource);
      named = subst (All (IsNumber (length p.jobs))) (sym only) (All-push (IsNumber (length p.jobs)) [] (number i) (λ q d l. absurd (omega (arith, l))) (omega arith, omega (arith, job)));
      rising = subst (AllPairs ◌<◌) (sym only) (λ q r d less l. absurd (omega (arith, less, l)));
      used = λ starts lies.
          let t : ℕ = slice_index starts i in
          let active : IsActive p starts t i = record { started = omega arith; runs = omega (arith, runs) } in
          let same : usage_by p starts need.place t need.jobs.items ≡ usage_by p starts k t (number i ∷ []) =
          ap (λ (q : ℕ). usage_by p starts q t need.jobs.items) at ∙ ap (usage_by p starts k t) only in
          let used : usage_by p starts k t (number i ∷ []) ≡ request p i k =
          omega (arith, sum_by-cons (λ job. use_of p starts k t (place job)) (number i) [], ap (use_of p starts k t) (place-number i), use_of-active p starts k t i active) in
          (t, omega (arith, from, lies.above i job), omega (arith, until, lies.below i job, runs), omega (arith, same, used, units));
      each = λ starts lies.
          let t : ℕ = slice_index starts i in
          let active : IsActive p starts t i = record { started = omega arith; runs = omega (arith, runs) } in
          let some : UsesSome p starts need (number i) = (
            t,
            omega (arith, from, lies.above i job),
            omega (arith, until, lies.below i job, runs),
            omega (arith, more, use_of-active p starts k t i active, ap (use_of p starts k t) (place-number i), ap (λ (q : ℕ). use_of p starts q t (place (number i))) at),
          ) in
          subst (All (UsesSome p starts need)) (sym only) (All-push (UsesSome p starts need) [] (number i) (λ q d l. absurd (omega (arith, l))) some);
    } in
    record { is = is; above = omega (arith, ap (slice_index ceilings) at, units, more) }
