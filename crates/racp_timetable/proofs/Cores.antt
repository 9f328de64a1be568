-- What runs at core times leaves no room for others.
use Rattle.std.proofs.Common.{◌≡◌, ℕ, zero, suc, ◌+◌, ◌<◌, ◌≤◌, inl, inr, List, length, slice_index, arith, subst}
use Rattle.std.proofs.lemmas.Bool.{cases_lt}
use Rattle.racp_model.specs.Project.{Project, IsSound, duration, request}
use Rattle.racp_model.specs.Schedule.{IsActive, sum_below, use_of}
use Rattle.racp_model.specs.Window.{Bounds, LiesIn, Answers, IsInside}
use Rattle.racp_model.specs.CoreTimes.{IsCoreTime, core_use}
use Rattle.racp_model.proofs.lemmas.Sums.{sum_below-mono, sum_below-step, sum_below-none, sum_below-bound}
use Rattle.racp_model.proofs.lemmas.Usage.{use_of-active}
use Rattle.racp_model.proofs.lemmas.Parts.{on_cases}
use Rattle.racp_model.proofs.lemmas.CoreTimes.{core_use-on, core_use-off, core_use-use, core_use-small}
use Rattle.racp_timetable.specs.Cores.{IsCore, IsCoreAround, HasRoom, AreWithin}
use Rattle.racp_timetable.specs.Laws.{CoreLeavesNoRoom}
use Rattle.racp_timetable.specs.declared.core_times.Core.{Core}

-- a sum is more by at least what one of its terms is more
pub sum_below-more : (n : ℕ) (f g : ℕ → ℕ) (j more : ℕ) → ((i : ℕ) → i < n → f i ≤ g i) → j < n → f j + more ≤ g j → sum_below n f + more ≤ sum_below n g
unfolding sum_below
sum_below-more zero f g j more h l at = absurd (omega arith)
sum_below-more (suc n) f g j more h l at = elim (cases_lt j n) [
  | inl before ↦ omega (arith, sum_below-more n f g j more (λ i m. h i (omega arith)) before at, h n (omega arith))
  | inr here ↦
      let e : j ≡ n = omega arith in
      let last : f n + more ≤ g n = let P : ℕ → Type 0 = λ i. f i + more ≤ g i in subst P e at in
      omega (arith, sum_below-mono n f g (λ i m. h i (omega arith)))
]

-- starts in a window inside another lie in that one
pub inside_lies : (p : Project) (outer window : Bounds) (starts : List ℕ) → IsInside p outer window → LiesIn p window starts → LiesIn p outer starts
inside_lies p outer window starts inside lies = record {
  places = lies.places;
  above = λ i l. omega (arith, inside.lower i l, lies.above i l);
  below = λ i l. omega (arith, inside.upper i l, lies.below i l);
}

module _ (p : Project) (outer : Bounds) (starts : List ℕ) (core : Core) (lies : LiesIn p outer starts) (is : IsCore p outer core) where
  -- a job uses at least its core use as long as the core lasts
  pub core_lasts : (k s i : ℕ) → core.time ≤ s → s < core.until → i < length p.jobs → core_use p outer k core.time i ≤ use_of p starts k s i
  core_lasts k s i from until l =
      elim (on_cases (slice_index outer.upper) (λ j. slice_index outer.lower j + duration p j) (λ j. request p j k) core.time i) [
        | inl on ↦
            let at : IsCoreTime p outer core.time i = record { started = on.0; runs = on.1 } in
            let active : IsActive p starts s i = record {
              started = omega (arith, lies.below i l, on.0);
              runs = omega (arith, lies.above i l, is.lasts i l at);
            } in
            omega (arith, core_use-on p outer k core.time i at, use_of-active p starts k s i active)
        | inr off ↦ omega (arith, core_use-off p outer k core.time i (λ at. off (at.started, at.runs)))
      ]

  -- where another job runs meanwhile, and the starts fit, the core leaves room for it
  pub room_beside : (capacities : List ℕ) (s i : ℕ) → ((k : ℕ) → k < p.resources → sum_below (length p.jobs) (use_of p starts k s) ≤ slice_index capacities k) →
      core.time ≤ s → s < core.until → i < length p.jobs → (IsCoreTime p outer core.time i → ⊥) → IsActive p starts s i → HasRoom p capacities core.loads i
  room_beside capacities s i within from until l apart active k r =
      let more : core_use p outer k core.time i + request p i k ≤ use_of p starts k s i = omega (arith, core_use-off p outer k core.time i apart, use_of-active p starts k s i active) in
      omega (arith, within k r, is.loads k r, sum_below-more (length p.jobs) (core_use p outer k core.time) (use_of p starts k s) i (request p i k) (λ j m. core_lasts k s j from until m) l more)

  -- and they fit only where the core itself fits
  pub core_within : (capacities : List ℕ) → ((k : ℕ) → k < p.resources → sum_below (length p.jobs) (use_of p starts k core.time) ≤ slice_index capacities k) → AreWithin p capacities core.loads
  core_within capacities within k r =
      omega (arith, within k r, is.loads k r, sum_below-mono (length p.jobs) (core_use p outer k core.time) (use_of p starts k core.time) (λ j m. core_lasts k core.time j (omega arith) is.later m))

module _ (p : Project) (capacities : List ℕ) (window : Bounds) (core : Core) (around : IsCoreAround p window core) (i : ℕ) (l : i < length p.jobs) (runs : 0 < duration p i) (full : HasRoom p capacities core.loads i → ⊥) where
  -- a job for which the core leaves no room, and which is not part of it, does not run in an answer while it lasts
  pub runs_apart : (IsCoreTime p window core.time i → ⊥) → (starts : List ℕ) → Answers p capacities window starts → (s : ℕ) → core.time ≤ s → s < core.until → IsActive p starts s i → ⊥
  runs_apart apart starts answers s from until active =
      let outer = around.outer in
      let inside = around.inside in
      full (room_beside p outer starts core (inside_lies p outer window starts inside answers.lies) around.is capacities s i (λ k r. answers.fits.within k s r) from until l
      (λ at. apart (record { started = omega (arith, inside.upper i l, at.started); runs = omega (arith, inside.lower i l, at.runs) })) active)

  -- where it would run at the core's time from its lower bound on, it starts when the core is over
  pub starts_behind : core.time < slice_index window.lower i + duration p i → core.time < slice_index window.upper i → (starts : List ℕ) → Answers p capacities window starts → core.until ≤ slice_index starts i
  starts_behind ends beside starts answers = elim (cases_lt (slice_index starts i) core.until) [
    | inr behind ↦ behind
    | inl before ↦
        let lower : slice_index window.lower i ≤ slice_index starts i = answers.lies.above i l in
        let apart : IsCoreTime p window core.time i → ⊥ = λ at. omega (arith, at.started) in
        elim (cases_lt (slice_index starts i) core.time) [
          | inl early ↦ absurd (runs_apart apart starts answers core.time (omega arith) around.is.later (record { started = omega arith; runs = omega arith }))
          | inr late ↦ absurd (runs_apart apart starts answers (slice_index starts i) late before (record { started = omega arith; runs = omega arith }))
        ]
  ]

  -- where it would run then from its upper bound on, it ends by the core's time
  pub ends_before : slice_index window.lower i + duration p i ≤ core.time → slice_index window.upper i < core.until → (starts : List ℕ) → Answers p capacities window starts → slice_index starts i + duration p i ≤ core.time
  ends_before beside begins starts answers = elim (cases_lt core.time (slice_index starts i + duration p i)) [
    | inr before ↦ before
    | inl over ↦
        let upper : slice_index starts i ≤ slice_index window.upper i = answers.lies.below i l in
        let apart : IsCoreTime p window core.time i → ⊥ = λ at. omega (arith, at.runs) in
        elim (cases_lt (slice_index starts i) core.time) [
          | inl early ↦ absurd (runs_apart apart starts answers core.time (omega arith) around.is.later (record { started = omega arith; runs = omega arith }))
          | inr late ↦ absurd (runs_apart apart starts answers (slice_index starts i) late (omega arith) (record { started = omega arith; runs = omega arith }))
        ]
  ]

-- the core usage of the first n jobs at a time, and a later time until which those that use it run on
pub record IsCoreBelow (p : Project) (window : Bounds) (time n until : ℕ) (loads : List ℕ) : Type 0 where
  pub sums : (k : ℕ) → k < p.resources → slice_index loads k ≡ sum_below n (core_use p window k time)
  pub lasts : (i : ℕ) → i < n → IsCoreTime p window time i → until ≤ slice_index window.lower i + duration p i
  pub later : time < until

-- before the first job
pub core-none : (p : Project) (window : Bounds) (time until : ℕ) (loads : List ℕ) → time < until → ((k : ℕ) → slice_index loads k ≡ 0) → IsCoreBelow p window time 0 until loads
core-none p window time until loads later none = record {
  sums = λ k r. omega (arith, none k, sum_below-none (core_use p window k time));
  lasts = λ i l. absurd (omega arith);
  later = later;
}

module _ (p : Project) (window : Bounds) (time n until : ℕ) (loads : List ℕ) (h : IsCoreBelow p window time n until loads) where
  -- a job of which it is a core time
  pub core-more : (until' : ℕ) (loads' : List ℕ) → IsCoreTime p window time n → until' ≤ until → until' ≤ slice_index window.lower n + duration p n → time < until' →
      ((k : ℕ) → k < p.resources → slice_index loads' k ≡ slice_index loads k + request p n k) → IsCoreBelow p window time (n + 1) until' loads'
  core-more until' loads' at less within behind more = record {
    sums = λ k r. omega (arith, more k r, h.sums k r, sum_below-step n (core_use p window k time), core_use-on p window k time n at);
    lasts = λ i l core. elim (cases_lt i n) [
      | inl before ↦ omega (arith, less, h.lasts i before core)
      | inr here ↦
          let e : n ≡ i = omega arith in
          let P : ℕ → Type 0 = λ j. until' ≤ slice_index window.lower j + duration p j in
          subst P e within
    ];
    later = behind;
  }

  -- another one
  pub core-same : (IsCoreTime p window time n → ⊥) → IsCoreBelow p window time (n + 1) until loads
  core-same apart = record {
    sums = λ k r. omega (arith, h.sums k r, sum_below-step n (core_use p window k time), core_use-off p window k time n apart);
    lasts = λ i l core. elim (cases_lt i n) [
      | inl before ↦ h.lasts i before core
      | inr here ↦
          let e : i ≡ n = omega arith in
          let P : ℕ → Type 0 = λ j. IsCoreTime p window time j in
          absurd (apart (subst P e core))
    ];
    later = h.later;
  }

-- the loads are small
pub loads-small : (p : Project) (window : Bounds) (time n k : ℕ) → IsSound p → n ≤ length p.jobs → k < p.resources → sum_below n (core_use p window k time) ≤ 5120000
loads-small p window time n k sound l r =
    omega (arith, sound.limits.most_jobs, sum_below-bound n 10000 (core_use p window k time) (λ i m. core_use-small p window k time i sound (omega arith) r))

-- a job does not run at a time at which the core usage leaves no room for it
pub no_room : CoreLeavesNoRoom
no_room p capacities window starts k t i answers r l apart over active =
    let more : core_use p window k t i + request p i k ≤ use_of p starts k t i = omega (arith, core_use-off p window k t i apart, use_of-active p starts k t i active) in
    omega (arith, over, answers.fits.within k t r, sum_below-more (length p.jobs) (core_use p window k t) (use_of p starts k t) i (request p i k) (λ j m. core_use-use p window starts k t j answers.lies m) l more)
