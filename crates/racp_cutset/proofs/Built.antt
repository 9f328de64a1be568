-- The start vector that is built from a node's early starts and starts that answer a covered node's question, and why it
-- answers the question of the node.
use Rattle.std.proofs.Common.{◌≡◌, ℕ, ◌+◌, ◌-◌, ◌<◌, ◌≤◌, ◌⊎◌, inl, inr, List, length, slice_index, max, arith}
use Rattle.std.proofs.lemmas.Bool.{cases_lt}
use Rattle.std.proofs.lemmas.Bool.Decides.{nat_tests}
use Rattle.std.proofs.lemmas.List.FromFn.{length-map-range_with_len, get_or-map-range_with_len}
use Rattle.racp_model.specs.Project.{Project, duration}
use Rattle.racp_model.specs.Schedule.{IsActive, use_of, usage}
use Rattle.racp_model.specs.Window.{Answers}
use Rattle.racp_model.proofs.lemmas.Usage.{use_of-active, use_of-idle, active_cases}
use Rattle.racp_model.proofs.lemmas.Arcs.{precedes_in}
use Rattle.racp_model.proofs.lemmas.Sums.{sum_below-mono, sum_below-bound}
use Rattle.racp_cutset.specs.Covering.{SearchNode, IsNode, IsStarted, Covers}
use Rattle.racp_cutset.specs.Laws.{built_start, built_starts, StartsAreBuilt, BuiltLies, BuiltKeepsPrecedence, BuiltFitsBefore, BuiltFitsBetween, BuiltFitsAfter, BuiltAnswers, CoveringKeepsYes, CoveringRefutes}

-- a job keeps its early start, or takes the other
pub record IsKept (p : Project) (v : SearchNode) (second : ℕ) (starts : List ℕ) (i s : ℕ) : Type 0 where
  pub started : IsStarted v i
  pub why : (slice_index v.early i + duration p i ≤ v.time) ⊎ (slice_index starts i ≤ second)
  pub is : s ≡ slice_index v.early i

pub record IsTaken (p : Project) (v : SearchNode) (second : ℕ) (starts : List ℕ) (i s : ℕ) : Type 0 where
  pub why : (v.time ≤ slice_index v.early i) ⊎ (IsStarted v i × (v.time < slice_index v.early i + duration p i) × (second < slice_index starts i))
  pub is : s ≡ slice_index starts i

pub start_cases : (p : Project) (v : SearchNode) (second : ℕ) (starts : List ℕ) (i : ℕ) → IsKept p v second starts i (built_start p v second starts i) ⊎ IsTaken p v second starts i (built_start p v second starts i)
unfolding built_start
start_cases p v second starts i = elim (cases_lt (slice_index v.early i) v.time) [
  | inl started ↦ elim (cases_lt v.time (slice_index v.early i + duration p i)) [
    | inl past ↦ elim (cases_lt second (slice_index starts i)) [
      | inl after ↦ inr (record { why = inr (started, past, after); is = grind (arith, nat_tests) })
      | inr before ↦ inl (record { started = started; why = inr before; is = grind (arith, nat_tests) })
    ]
    | inr over ↦ inl (record { started = started; why = inl over; is = grind (arith, nat_tests) })
  ]
  | inr later ↦ inr (record { why = inl later; is = grind (arith, nat_tests) })
]

pub built_at : (p : Project) (v : SearchNode) (second : ℕ) (starts : List ℕ) (i : ℕ) → i < length p.jobs → slice_index (built_starts p v second starts) i ≡ built_start p v second starts i
built_at p v second starts i l = get_or-map-range_with_len (built_start p v second starts) 0 (length p.jobs) i i 0 l (omega arith)

pub built_cases : (p : Project) (v : SearchNode) (second : ℕ) (starts : List ℕ) (i : ℕ) → i < length p.jobs → IsKept p v second starts i (slice_index (built_starts p v second starts) i) ⊎ IsTaken p v second starts i (slice_index (built_starts p v second starts) i)
built_cases p v second starts i l = rw (built_at p v second starts i l) (start_cases p v second starts i)

-- so the start vector takes each start by the rule
pub starts_are_built : StartsAreBuilt
starts_are_built p v second given = record {
  places = length-map-range_with_len (built_start p v second given) 0 (length p.jobs);
  over = λ i l started over. elim (built_cases p v second given i l) [
    | inl kept ↦ kept.is
    | inr taken ↦ elim taken.why [ inl later ↦ absurd (omega (arith, later, started)) | inr past ↦ absurd (omega (arith, past.1, over)) ]
  ];
  before = λ i l started before. elim (built_cases p v second given i l) [
    | inl kept ↦ kept.is
    | inr taken ↦ elim taken.why [ inl later ↦ absurd (omega (arith, later, started)) | inr past ↦ absurd (omega (arith, past.2, before)) ]
  ];
  runs = λ i l started runs after. elim (built_cases p v second given i l) [
    | inl kept ↦ elim kept.why [ inl over ↦ absurd (omega (arith, over, runs)) | inr before ↦ absurd (omega (arith, before, after)) ]
    | inr taken ↦ taken.is
  ];
  others = λ i l later. elim (built_cases p v second given i l) [
    | inl kept ↦ absurd (omega (arith, kept.started, later))
    | inr taken ↦ taken.is
  ];
}

-- an answer of the covered node starts each job that is not started at its time or later, and none before its early start
pub record IsUsual (p : Project) (v w : SearchNode) (starts : List ℕ) (i : ℕ) : Type 0 where
  pub early : slice_index w.early i ≤ slice_index starts i
  pub later : v.time ≤ slice_index v.early i → w.time ≤ slice_index starts i

pub usual : (p : Project) (v w : SearchNode) (starts : List ℕ) (i : ℕ) → IsNode p w → Covers p v w → Answers p w.capacities w.window starts → i < length p.jobs → IsUsual p v w starts i
usual p v w starts i hw c a l =
    let above : slice_index w.early i ≤ slice_index starts i = hw.early.least starts a.lies.above a.fits.precedence i l in
    record {
      early = above;
      later = λ q. elim (cases_lt (slice_index w.early i) w.time) [
        | inl started ↦ let back : slice_index v.early i < v.time = (c.cutset.started i l).1 started in absurd (omega arith)
        | inr from ↦ omega arith
      ];
    }

pub built_lies : BuiltLies
built_lies p v w starts sound hv hw c a = record {
  places = length-map-range_with_len (built_start p v w.time starts) 0 (length p.jobs);
  above = λ i l.
      let u = usual p v w starts i hw c a l in
      let from : slice_index v.window.lower i ≤ slice_index v.early i = hv.early.above i l in
      let lies : slice_index w.window.lower i ≤ slice_index starts i = a.lies.above i l in
      elim (built_cases p v w.time starts i l) [
        | inl kept ↦ omega (arith, kept.is)
        | inr taken ↦ elim taken.why [
          | inl later ↦ omega (arith, taken.is, u.later later, c.lower i l later)
          | inr past ↦ omega (arith, taken.is, past.0, past.2, c.cutset.time)
        ]
      ];
  below = λ i l. elim (built_cases p v w.time starts i l) [
    | inl kept ↦ omega (arith, kept.is, c.fits.below i l kept.started)
    | inr taken ↦ omega (arith, taken.is, c.room.upper i l, a.lies.below i l)
  ];
}

pub built_keeps_precedence : BuiltKeepsPrecedence
built_keeps_precedence p v w starts sound hv hw c a i j order =
    let within = precedes_in p i j sound order in
    let ui = usual p v w starts i hw c a within.0 in
    let uj = usual p v w starts j hw c a within.1 in
    let in_v : slice_index v.early i + duration p i ≤ slice_index v.early j = hv.early.precedence i j order in
    let in_w : slice_index w.early i + duration p i ≤ slice_index w.early j = hw.early.precedence i j order in
    let in_s : slice_index starts i + duration p i ≤ slice_index starts j = a.fits.precedence i j order in
    let above : slice_index w.early j ≤ slice_index starts j = uj.early in
    elim (built_cases p v w.time starts i within.0) [
      | inl kept ↦
          let ends : slice_index v.early i + duration p i ≤ max w.time (slice_index w.early i + duration p i) = c.ends i within.0 kept.started in
          elim (built_cases p v w.time starts j within.1) [
            | inl also ↦ omega (arith, kept.is, also.is)
            | inr taken ↦ elim taken.why [
              | inl later ↦ omega (arith, kept.is, taken.is, uj.later later)
              | inr past ↦ omega (arith, kept.is, taken.is, past.2)
            ]
          ]
      | inr taken ↦ elim (built_cases p v w.time starts j within.1) [
        | inl kept ↦ elim taken.why [
          | inl later ↦ absurd (omega (arith, later, kept.started))
          | inr past ↦ absurd (omega (arith, past.1, kept.started))
        ]
        | inr also ↦ omega (arith, taken.is, also.is)
      ]
    ]

-- one job's use is at most its use in other starts, where it is active there too
pub use-below : (p : Project) (k i : ℕ) (S T : List ℕ) (s t : ℕ) → (IsActive p S s i → IsActive p T t i) → use_of p S k s i ≤ use_of p T k t i
use-below p k i S T s t h = elim (active_cases p S s i) [
  | inl a ↦ omega (arith, use_of-active p S k s i a, use_of-active p T k t i (h a))
  | inr idle ↦ omega (arith, use_of-idle p S k s i idle)
]

-- so for all jobs
pub usage-below : (p : Project) (k : ℕ) (S T : List ℕ) (s t : ℕ) → ((i : ℕ) → i < length p.jobs → IsActive p S s i → IsActive p T t i) → usage p S k s ≤ usage p T k t
usage-below p k S T s t h = sum_below-mono (length p.jobs) (use_of p S k s) (use_of p T k t) (λ i l. use-below p k i S T s t (h i l))

module _ (p : Project) (v w : SearchNode) (starts : List ℕ) (hw : IsNode p w) (c : Covers p v w) (a : Answers p w.capacities w.window starts) where
  -- a job that takes the other start does not start before the second time
  pub taken_late : (i s : ℕ) → i < length p.jobs → IsTaken p v w.time starts i s → w.time ≤ s
  taken_late i s l taken = elim taken.why [
    | inl later ↦ let u = usual p v w starts i hw c a l in omega (arith, taken.is, u.later later)
    | inr past ↦ omega (arith, taken.is, past.2)
  ]

  -- before the first time: what is active is active in the early starts
  pub active-before : (t i : ℕ) → t < v.time → i < length p.jobs → IsActive p (built_starts p v w.time starts) t i → IsActive p v.early t i
  active-before t i before l x =
      let started : slice_index (built_starts p v w.time starts) i ≤ t = x.started in
      let runs : t < slice_index (built_starts p v w.time starts) i + duration p i = x.runs in
      elim (built_cases p v w.time starts i l) [
        | inl kept ↦ record { started = omega (arith, kept.is); runs = omega (arith, kept.is) }
        | inr taken ↦ absurd (omega (arith, taken_late i (slice_index (built_starts p v w.time starts) i) l taken, c.cutset.time))
      ]

  -- between the two times: what is active was active in the early starts just before the first
  pub active-between : (t i : ℕ) → v.time ≤ t → t < w.time → i < length p.jobs → IsActive p (built_starts p v w.time starts) t i → (0 < v.time) × IsActive p v.early (v.time - 1) i
  active-between t i from before l x =
      let started : slice_index (built_starts p v w.time starts) i ≤ t = x.started in
      let runs : t < slice_index (built_starts p v w.time starts) i + duration p i = x.runs in
      elim (built_cases p v w.time starts i l) [
        | inl kept ↦
            let first : slice_index v.early i < v.time = kept.started in
            (omega arith, record { started = omega arith; runs = omega (arith, kept.is) })
        | inr taken ↦ absurd (omega (arith, taken_late i (slice_index (built_starts p v w.time starts) i) l taken))
      ]

  -- from the second time on: what is active is active in the other starts
  pub active-after : (t i : ℕ) → w.time ≤ t → i < length p.jobs → IsActive p (built_starts p v w.time starts) t i → IsActive p starts t i
  active-after t i from l x =
      let started : slice_index (built_starts p v w.time starts) i ≤ t = x.started in
      let runs : t < slice_index (built_starts p v w.time starts) i + duration p i = x.runs in
      let u = usual p v w starts i hw c a l in
      let above : slice_index w.early i ≤ slice_index starts i = u.early in
      elim (built_cases p v w.time starts i l) [
        | inl kept ↦ elim kept.why [
          | inl over ↦ absurd (omega (arith, kept.is, over, c.cutset.time))
          | inr before ↦ record { started = omega (arith, before); runs = omega (arith, kept.is, c.ends i l kept.started) }
        ]
        | inr taken ↦ record { started = omega (arith, taken.is); runs = omega (arith, taken.is) }
      ]

  -- so at each of the three stretches of time the usage is at most the capacity
  pub within-before : (k t : ℕ) → k < p.resources → t < v.time → usage p (built_starts p v w.time starts) k t ≤ slice_index v.capacities k
  within-before k t l before =
      omega (arith, usage-below p k (built_starts p v w.time starts) v.early t t (λ i q x. active-before t i before q x), c.fits.within k t l before)

  pub within-between : (k t : ℕ) → k < p.resources → (v.time ≤ t) × (t < w.time) → usage p (built_starts p v w.time starts) k t ≤ slice_index v.capacities k
  within-between k t l h =
      elim (cases_lt 0 v.time) [
        | inl some ↦ omega (arith, usage-below p k (built_starts p v w.time starts) v.early t (v.time - 1) (λ i q x. (active-between t i h.0 h.1 q x).1), c.fits.within k (v.time - 1) l (omega arith))
        | inr none ↦ omega (
          arith,
          sum_below-bound (length p.jobs) 0 (use_of p (built_starts p v w.time starts) k t)
              (λ i q. omega (arith, use_of-idle p (built_starts p v w.time starts) k t i (λ x. let y = active-between t i h.0 h.1 q x in omega (arith, y.0)))),
        )
      ]

  pub within-after : (k t : ℕ) → k < p.resources → w.time ≤ t → usage p (built_starts p v w.time starts) k t ≤ slice_index v.capacities k
  within-after k t l after =
      omega (arith, usage-below p k (built_starts p v w.time starts) starts t t (λ i q x. active-after t i after q x), a.fits.within k t l, c.room.capacities k l)

  -- and so it is at all times
  pub within : (k t : ℕ) → k < p.resources → usage p (built_starts p v w.time starts) k t ≤ slice_index v.capacities k
  within k t l = elim (cases_lt t v.time) [
    | inl before ↦ within-before k t l before
    | inr from ↦ elim (cases_lt t w.time) [ inl between ↦ within-between k t l (from, between) | inr after ↦ within-after k t l after ]
  ]

pub built_fits_before : BuiltFitsBefore
built_fits_before p v w starts sound hv hw c a = within-before p v w starts hw c a

pub built_fits_between : BuiltFitsBetween
built_fits_between p v w starts sound hv hw c a = within-between p v w starts hw c a

pub built_fits_after : BuiltFitsAfter
built_fits_after p v w starts sound hv hw c a = within-after p v w starts hw c a

pub built_answers : BuiltAnswers
built_answers p v w starts sound hv hw c a = record {
  lies = built_lies p v w starts sound hv hw c a;
  fits = record { precedence = built_keeps_precedence p v w starts sound hv hw c a; within = within p v w starts hw c a };
}

pub covering_keeps_yes : CoveringKeepsYes
covering_keeps_yes p v w sound hv hw c some = (built_starts p v w.time some.0, built_answers p v w some.0 sound hv hw c some.1)

pub covering_refutes : CoveringRefutes
covering_refutes p v w sound hv hw c refuted starts a = refuted (built_starts p v w.time starts) (built_answers p v w starts sound hv hw c a)
