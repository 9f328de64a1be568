-- Where the others leave no room for a job, it does not run.
use Rattle.std.proofs.Common.{◌≡◌, ◌⊎◌, ℕ, ◌+◌, ◌-◌, ◌<◌, ◌≤◌, ◌==◌, inl, inr, List, length, slice_index, true, false, Bool, cond, arith, ap, refl, sym, subst}
use Rattle.std.proofs.lemmas.Bool.{cases_lt, eq-eqb}
use Rattle.std.proofs.lemmas.Bool.Decides.{nat_tests}
use Rattle.racp_model.specs.Project.{Project, IsSound, duration, request}
use Rattle.racp_model.specs.Schedule.{IsActive, sum_below, use_of}
use Rattle.racp_model.specs.Terms.{Terms}
use Rattle.racp_model.specs.Window.{Bounds, LiesIn}
use Rattle.racp_model.proofs.lemmas.Sums.{sum_below-step, sum_below-none, request-small}
use Rattle.racp_model.proofs.lemmas.Usage.{use_of-active}
use Rattle.racp_clauses.specs.Solutions.{IsSchedule, IsWithin, HasPlaces, values, units_place}
use Rattle.racp_clauses.specs.Inferences.{Allows}
use Rattle.racp_clauses.specs.Rules.{runs_throughout, use_beside, usage_beside, start_outside}
use Rattle.racp_clauses.specs.declared.literal.Literal.TheVariants.{AtLeast, AtMost}
use Rattle.racp_clauses.specs.declared.inference.Inference.{Inference}
use Rattle.racp_clauses.specs.declared.inference.Inference.TheVariants.{Nothing, Narrow, Close}
use Rattle.racp_clauses.proofs.Sums.{sum_below-more}
use Rattle.racp_clauses.proofs.Values.{at_start, start_above, start_below, units_below, lies}

-- a job runs throughout some times, or it is not said that it does
pub throughout_cases : (p : Project) (bounds : Bounds) (a b i : ℕ) → ((slice_index bounds.upper i ≤ a) × (b ≤ slice_index bounds.lower i + duration p i)) ⊎ (runs_throughout p bounds a b i ≡ false)
throughout_cases p bounds a b i = elim (cases_lt a (slice_index bounds.upper i)) [
  | inl late ↦ inr (grind (arith, nat_tests))
  | inr started ↦ elim (cases_lt (slice_index bounds.lower i + duration p i) b) [
    | inl ends ↦ inr (grind (arith, nat_tests))
    | inr runs ↦ inl (started, runs)
  ]
]

-- a job is not beside itself
pub beside-self : (p : Project) (bounds : Bounds) (k a b j : ℕ) → use_beside p bounds k a b j j ≡ 0
unfolding use_beside
beside-self p bounds k a b j = ap (λ (c : Bool). cond c 0 (cond (runs_throughout p bounds a b j) (request p j k) 0)) (eq-eqb j j (omega arith))

-- what the others use is at most their request
pub beside-request : (p : Project) (bounds : Bounds) (k a b j i : ℕ) → use_beside p bounds k a b j i ≤ request p i k
unfolding use_beside
beside-request p bounds k a b j i = elim (i == j) as (λ c. cond c 0 (cond (runs_throughout p bounds a b i) (request p i k) 0) ≤ request p i k) [
  | true ↦ omega arith
  | false ↦ elim (runs_throughout p bounds a b i) as (λ c. cond c (request p i k) 0 ≤ request p i k) [ true ↦ omega arith | false ↦ omega arith ]
]

-- which is small
pub beside-small : (p : Project) (bounds : Bounds) (k a b j i : ℕ) → IsSound p → i < length p.jobs → k < p.resources → use_beside p bounds k a b j i ≤ 10000
beside-small p bounds k a b j i sound job resource = omega (arith, beside-request p bounds k a b j i, request-small p i k sound job resource)

-- and nothing where they do not run throughout
pub beside-off : (p : Project) (bounds : Bounds) (k a b j i : ℕ) → runs_throughout p bounds a b i ≡ false → use_beside p bounds k a b j i ≡ 0
unfolding use_beside
beside-off p bounds k a b j i off = elim (i == j) as (λ c. cond c 0 (cond (runs_throughout p bounds a b i) (request p i k) 0) ≡ 0) [ true ↦ refl | false ↦ ap (λ (c : Bool). cond c (request p i k) 0) off ]

-- for a loop that sums these
pub ruleset uses_beside = (sum_below-step, sum_below-none, beside-small)

-- at each of these times they use at least that
pub beside-use : (p : Project) (bounds : Bounds) (starts : List ℕ) (k a b t j i : ℕ) → LiesIn p bounds starts → i < length p.jobs → a ≤ t → t < b → use_beside p bounds k a b j i ≤ use_of p starts k t i
beside-use p bounds starts k a b t j i lies job from until = elim (throughout_cases p bounds a b i) [
  | inl runs ↦
      let active : IsActive p starts t i = record { started = omega (arith, runs.0, from, lies.below i job); runs = omega (arith, runs.1, until, lies.above i job) } in
      omega (arith, beside-request p bounds k a b j i, use_of-active p starts k t i active)
  | inr off ↦ omega (arith, beside-off p bounds k a b j i off)
]

module _ (p : Project) (terms : Terms) (starts capacities : List ℕ) (h : IsSchedule p starts capacities) (bounds : Bounds) (has : HasPlaces p bounds) (w : IsWithin bounds (values terms starts capacities))
    (k a b j : ℕ) (resource : k < p.resources) (job : j < length p.jobs) (over : slice_index bounds.upper (units_place p k) < usage_beside p bounds k a b j + request p j k) where
  -- a job for which there is no room is not active
  pub no_room : (t : ℕ) → a ≤ t → t < b → IsActive p starts t j → ⊥
  no_room t from until active =
      let more : use_beside p bounds k a b j j + request p j k ≤ use_of p starts k t j = omega (arith, beside-self p bounds k a b j, use_of-active p starts k t j active) in
      omega (
        arith,
        over,
        h.fits.within k t resource,
        units_below p terms starts capacities h bounds has w k resource,
        sum_below-more (length p.jobs) (use_beside p bounds k a b j) (use_of p starts k t) j (request p j k)
            (λ i l. beside-use p bounds starts k a b t j i (lies p terms starts capacities h bounds has w) l from until) job more,
      )

  module _ (some : a < b) (runs : 0 < duration p j) where
    -- so it starts behind these times, or ends before
    pub outside : (b ≤ slice_index starts j) ⊎ (slice_index starts j + duration p j ≤ a)
    outside = elim (cases_lt (slice_index starts j) b) [
      | inr behind ↦ inl behind
      | inl before ↦ elim (cases_lt a (slice_index starts j + duration p j)) [
        | inr ended ↦ inr ended
        | inl later ↦ elim (cases_lt a (slice_index starts j)) [
          | inl within ↦ absurd (no_room (slice_index starts j) (omega (arith, within)) before (record { started = omega arith; runs = omega (arith, runs) }))
          | inr started ↦ absurd (no_room a (omega arith) some (record { started = started; runs = later }))
        ]
      ]
    ]

    pub outside-allowed : Allows (start_outside p bounds a b j) (values terms starts capacities)
    outside-allowed =
        let above = start_above p terms starts capacities h bounds has w j job in
        let below = start_below p terms starts capacities h bounds has w j job in
        let at = at_start p terms starts capacities h j job in
        elim (cases_lt a (slice_index bounds.lower j + duration p j)) [
          | inl behind ↦
              let later : b ≤ slice_index starts j = elim outside [ inl l ↦ l | inr ended ↦ absurd (omega (arith, ended, behind, above)) ] in
              elim (cases_lt (slice_index bounds.upper j) b) [
                | inl before ↦ absurd (omega (arith, later, before, below))
                | inr open' ↦
                    let is : start_outside p bounds a b j ≡ Narrow (AtLeast j b) = grind (arith, nat_tests) in
                    let so : b ≤ slice_index (values terms starts capacities) j = omega (arith, at, later) in
                    subst (λ (i : Inference). Allows i (values terms starts capacities)) (sym is) so
              ]
          | inr ends ↦ elim (cases_lt (slice_index bounds.upper j) b) [
            | inl before ↦
                let earlier : slice_index starts j + duration p j ≤ a = elim outside [ inl l ↦ absurd (omega (arith, l, before, below)) | inr ended ↦ ended ] in
                let is : start_outside p bounds a b j ≡ Narrow (AtMost j (a - duration p j)) = grind (arith, nat_tests) in
                let so : slice_index (values terms starts capacities) j ≤ a - duration p j = omega (arith, at, earlier) in
                subst (λ (i : Inference). Allows i (values terms starts capacities)) (sym is) so
            | inr open' ↦
                let is : start_outside p bounds a b j ≡ Nothing = grind (arith, nat_tests) in
                subst (λ (i : Inference). Allows i (values terms starts capacities)) (sym is) tt
          ]
        ]
