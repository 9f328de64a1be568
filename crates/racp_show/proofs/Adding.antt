-- The usage of a resource in steps that are found one after another.
use Rattle.std.proofs.Common.{◌≡◌, ◌∙◌, ℕ, ◌+◌, ◌<◌, ◌≤◌, ◌++◌, ◌∷◌, [], true, false, List, AllPairs, length, slice_index, slice_index_or, min, nat_le, if◌then◌else◌, inl, inr, arith, ap, sym, subst, refl, length-append}
use Rattle.std.proofs.lemmas.Bool.{cases_lt}
use Rattle.std.proofs.lemmas.Bool.Decides.{nat_tests}
use Rattle.std.proofs.lemmas.List.Sums.{fold_push}
use Rattle.std.proofs.lemmas.List.Quantifiers.{all_pairs_push}
use Rattle.racp_model.specs.Project.{Project, duration}
use Rattle.racp_model.specs.Schedule.{EndsBy, IsActive, use_of, usage}
use Rattle.racp_model.proofs.lemmas.Sums.{sum_below-same}
use Rattle.racp_model.proofs.lemmas.Usage.{use_of-active, use_of-idle, active_cases}
use Rattle.racp_show.specs.declared.usage.Step.{Step}
use Rattle.racp_show.specs.Uses.{units_at, AreSteps}
use Rattle.racp_show.specs.Changes.{IsNextChange}
use Rattle.racp_show.proofs.Rows.{each_push}

-- no job starts or ends after `time` and not after t
record IsQuiet (p : Project) (starts : List ℕ) (time t : ℕ) : Type 0 where
  begins : (i : ℕ) → i < length p.jobs → time < slice_index starts i → t < slice_index starts i
  stops : (i : ℕ) → i < length p.jobs → time < slice_index starts i + duration p i → t < slice_index starts i + duration p i

-- then what a job uses stays
use_of-quiet : (p : Project) (starts : List ℕ) (k time t i : ℕ) → time ≤ t → IsQuiet p starts time t → i < length p.jobs → use_of p starts k t i ≡ use_of p starts k time i
use_of-quiet p starts k time t i later quiet job = elim (active_cases p starts time i) [
  | inl active ↦
      let there : IsActive p starts t i = record { started = omega (arith, active.started, later); runs = quiet.stops i job active.runs } in
      use_of-active p starts k t i there ∙ sym (use_of-active p starts k time i active)
  | inr idle ↦
      let there : IsActive p starts t i → ⊥ = λ active. elim (cases_lt time (slice_index starts i)) [
        | inl before ↦ omega (arith, quiet.begins i job before, active.started)
        | inr after ↦ idle (record { started = after; runs = omega (arith, active.runs, later) })
      ] in
      use_of-idle p starts k t i there ∙ sym (use_of-idle p starts k time i idle)
]

-- and so does the usage
usage-quiet : (p : Project) (starts : List ℕ) (k time t : ℕ) → time ≤ t → IsQuiet p starts time t → usage p starts k t ≡ usage p starts k time
usage-quiet p starts k time t later quiet =
    sum_below-same (length p.jobs) (use_of p starts k t) (use_of p starts k time) (λ i job. use_of-quiet p starts k time t i later quiet job)

-- until the next change nothing starts or ends
quiet_until : (p : Project) (starts : List ℕ) (time next t : ℕ) → IsNextChange p starts time next → t < next → IsQuiet p starts time t
quiet_until p starts time next t change before = record {
  begins = λ i job later. omega (arith, change.begins i job later, before);
  stops = λ i job later. omega (arith, change.stops i job later, before);
}

-- nor behind the deadline
quiet_behind : (p : Project) (starts : List ℕ) (deadline time t : ℕ) → EndsBy p (λ _. deadline) starts → deadline ≤ time → IsQuiet p starts time t
quiet_behind p starts deadline time t ends after = record {
  begins = λ i job later. absurd (omega (arith, ends i job, later, after));
  stops = λ i job later. absurd (omega (arith, ends i job, later, after));
}

-- the units at a time after one more step
units_at-push : (steps : List Step) (step : Step) (t : ℕ) → units_at (steps ++ step ∷ []) t ≡ (if nat_le step.from t then step.units else units_at steps t)
unfolding units_at
units_at-push steps step t = fold_push (λ units step. if nat_le step.from t then step.units else units) 0 steps step

-- from its time on they are its own, and before it those of the steps before
units_at-from : (steps : List Step) (step : Step) (t : ℕ) → step.from ≤ t → units_at (steps ++ step ∷ []) t ≡ step.units
units_at-from steps step t after =
    let e : nat_le step.from t ≡ true = grind (arith, nat_tests) in
    units_at-push steps step t ∙ ap (λ b. if b then step.units else units_at steps t) e

units_at-before : (steps : List Step) (step : Step) (t : ℕ) → t < step.from → units_at (steps ++ step ∷ []) t ≡ units_at steps t
units_at-before steps step t before =
    let e : nat_le step.from t ≡ false = grind (arith, nat_tests) in
    units_at-push steps step t ∙ ap (λ b. if b then step.units else units_at steps t) e

-- the steps up to a time: each begins after the one before and not after the time, and at each time up to it as much is
-- used as they say
pub record AreStepsTo (p : Project) (starts : List ℕ) (k time : ℕ) (steps : List Step) : Type 0 where
  pub rising : AllPairs (λ a b. a.from < b.from) steps
  pub begun : (i : ℕ) (d : Step) → i < length steps → (slice_index_or steps i d).from ≤ time
  pub each : (t : ℕ) → units_at steps t ≡ usage p starts k (min t time)

-- the first step
pub first_step : (p : Project) (starts : List ℕ) (k : ℕ) (steps : List Step) (step : Step) → steps ≡ [] ++ step ∷ [] → step.from ≡ 0 → step.units ≡ usage p starts k 0 → AreStepsTo p starts k 0 steps
first_step p starts k steps step is from units =
    let P : List Step → Type 0 = AreStepsTo p starts k 0 in
    subst P (sym is) (record {
      rising = all_pairs_push (λ (a b : Step). a.from < b.from) [] step (λ i j d less l. absurd (omega (arith, l))) (λ i d l. absurd (omega (arith, l)));
      begun = each_push (λ (i : ℕ) (s : Step). s.from ≤ 0) [] ([] ++ step ∷ []) step 0 refl refl (λ i d l. absurd (omega (arith, l))) (omega (arith, from));
      each = λ t.
          let e : 0 ≡ min t 0 = omega arith in
          units_at-from [] step t (omega (arith, from)) ∙ units ∙ ap (usage p starts k) e;
    })

-- a usage up to a time, and up to the next change, before that
usage-min_before : (p : Project) (starts : List ℕ) (k time next t : ℕ) → IsNextChange p starts time next → t < next → usage p starts k (min t time) ≡ usage p starts k (min t next)
usage-min_before p starts k time next t change before = elim (cases_lt time t) [
  | inl later ↦
      let e : min t time ≡ time = omega (arith, later) in
      let f : t ≡ min t next = omega (arith, before) in
      ap (usage p starts k) e ∙ (sym (usage-quiet p starts k time t (omega (arith, later)) (quiet_until p starts time next t change before)) ∙ ap (usage p starts k) f)
  | inr early ↦
      let e : min t time ≡ min t next = omega (arith, early, change.after) in
      ap (usage p starts k) e
]

-- a usage up to a time, and up to the next change, where that changes nothing
usage-min : (p : Project) (starts : List ℕ) (k time next t : ℕ) → IsNextChange p starts time next → usage p starts k next ≡ usage p starts k time → usage p starts k (min t time) ≡ usage p starts k (min t next)
usage-min p starts k time next t change same = elim (cases_lt t next) [
  | inl before ↦ usage-min_before p starts k time next t change before
  | inr after ↦
      let e : min t time ≡ time = omega (arith, after, change.after) in
      let f : next ≡ min t next = omega (arith, after) in
      ap (usage p starts k) e ∙ (sym same ∙ ap (usage p starts k) f)
]

-- where nothing changes at the next change, the steps up to a time are those up to it
pub same_steps : (p : Project) (starts : List ℕ) (k time next : ℕ) (steps : List Step) → IsNextChange p starts time next → AreStepsTo p starts k time steps → usage p starts k next ≡ usage p starts k time → AreStepsTo p starts k next steps
same_steps p starts k time next steps change h same = record {
  rising = h.rising;
  begun = λ i d l. omega (arith, h.begun i d l, change.after);
  each = λ t. h.each t ∙ usage-min p starts k time next t change same;
}

-- else there is one more
pub more_steps : (p : Project) (starts : List ℕ) (k time next : ℕ) (steps new : List Step) (step : Step) → IsNextChange p starts time next → AreStepsTo p starts k time steps → new ≡ steps ++ step ∷ [] → step.from ≡ next → step.units ≡ usage p starts k next → AreStepsTo p starts k next new
more_steps p starts k time next steps new step change h is from units =
    let P : List Step → Type 0 = AreStepsTo p starts k next in
    subst P (sym is) (record {
      rising = all_pairs_push (λ (a b : Step). a.from < b.from) steps step h.rising (λ i d l. omega (arith, h.begun i d l, change.after, from));
      begun = λ i d l. each_push (λ (i : ℕ) (s : Step). s.from ≤ next) steps (steps ++ step ∷ []) step (length steps) refl refl (λ j d m. omega (arith, h.begun j d m, change.after)) (omega (arith, from)) i d
          (omega (arith, l, length-append steps (step ∷ [])));
      each = λ t. elim (cases_lt t next) [
        | inl before ↦ units_at-before steps step t (omega (arith, before, from)) ∙ (h.each t ∙ usage-min_before p starts k time next t change before)
        | inr after ↦
            let e : next ≡ min t next = omega (arith, after) in
            units_at-from steps step t (omega (arith, after, from)) ∙ (units ∙ ap (usage p starts k) e)
      ];
    })

-- the steps up to a time from the deadline on are all of them
pub all_steps : (p : Project) (starts : List ℕ) (k deadline time : ℕ) (steps : List Step) → EndsBy p (λ _. deadline) starts → deadline ≤ time → AreStepsTo p starts k time steps → AreSteps p starts k steps
all_steps p starts k deadline time steps ends after h = record {
  rising = h.rising;
  each = λ t. h.each t ∙ elim (cases_lt time t) [
    | inl later ↦
        let e : min t time ≡ time = omega (arith, later) in
        ap (usage p starts k) e ∙ sym (usage-quiet p starts k time t (omega (arith, later)) (quiet_behind p starts deadline time t ends after))
    | inr before ↦
        let e : min t time ≡ t = omega (arith, before) in
        ap (usage p starts k) e
  ];
}
