-- The search for the first conflict from start to start.
use Rattle.std.proofs.Common.{◌≡◌, ◌⊎◌, ◌∙◌, inl, inr, ℕ, ◌+◌, ◌-◌, ◌<◌, ◌≤◌, refl, List, length, slice_index, replicate, arith, ap, sym}
use Rattle.std.proofs.lemmas.Bool.{cases_lt}
use Rattle.racp_model.specs.Project.{Project, duration, request, IsSound}
use Rattle.racp_model.specs.Schedule.{IsActive, use_of, usage, sum_below, IsWithinCapacities}
use Rattle.racp_model.proofs.lemmas.Sums.{sum_below-mono, sum_below-step, sum_below-none, sum_below-bound, use_of-small}
use Rattle.racp_model.proofs.lemmas.Usage.{use_of-active, use_of-idle, active_cases}
use Rattle.racp_model.proofs.lemmas.Zeros.{zeros}
use Rattle.racp_delay.specs.Scans.{AreTooMuch, IsNextStart}

-- among the first n starts: the next one after a time, or the greatest number
pub record IsNextBelow (starts : List ℕ) (time n next : ℕ) : Type 0 where
  pub first : (i : ℕ) → i < n → time < slice_index starts i → next ≤ slice_index starts i
  pub some : ((i : ℕ) × (i < length starts) × (time < slice_index starts i) × (slice_index starts i ≡ next)) ⊎ (next ≡ 4294967295)

module _ (starts : List ℕ) (time n next : ℕ) (h : IsNextBelow starts time n next) where
  -- a start after it that is sooner
  pub next-sooner : (next' : ℕ) → n < length starts → next' ≡ slice_index starts n → time < slice_index starts n → slice_index starts n < next → IsNextBelow starts time (n + 1) next'
  next-sooner next' l is late less = record {
    first = λ i m w. elim (cases_lt i n) [
      | inl before ↦ omega (arith, is, h.first i before w)
      | inr last ↦ (let here : i ≡ n = omega arith in omega (arith, is, ap (slice_index starts) here))
    ];
    some = inl (n, l, late, sym is);
  }

  -- another one
  pub next-same : (next' : ℕ) → next' ≡ next → (time < slice_index starts n → next ≤ slice_index starts n) → IsNextBelow starts time (n + 1) next'
  next-same next' is later = record {
    first = λ i m w. elim (cases_lt i n) [
      | inl before ↦ omega (arith, is, h.first i before w)
      | inr last ↦
          let here : i ≡ n = omega arith in
          let same : slice_index starts i ≡ slice_index starts n = ap (slice_index starts) here in
          omega (arith, is, same, later (omega (arith, same)))
    ];
    some = elim h.some [ inl w ↦ inl (w.0, w.1, w.2, w.3 ∙ sym is) | inr none ↦ inr (is ∙ none) ];
  }

  -- of all starts
  pub next-all : n ≡ length starts → IsNextStart starts time next
  next-all e = record { first = λ i m w. h.first i (omega (arith, e)) w; some = h.some }

-- before the first start
pub next-none : (starts : List ℕ) (time : ℕ) → IsNextBelow starts time 0 4294967295
next-none starts time = record { first = λ i m w. absurd (omega arith); some = inr refl }

-- loads of the first n jobs, where they are active at a time
abbrev pub AreLoadsBelow : Project → List ℕ → ℕ → ℕ → List ℕ → Type 0
AreLoadsBelow p starts t n loads = (k : ℕ) → k < p.resources → slice_index loads k ≡ sum_below n (use_of p starts k t)

-- they are small
pub loads-small : (p : Project) (starts : List ℕ) (t n k : ℕ) → IsSound p → n ≤ length p.jobs → k < p.resources → sum_below n (use_of p starts k t) ≤ 5120000
loads-small p starts t n k sound l r =
    omega (arith, sound.limits.most_jobs, sum_below-bound n 10000 (use_of p starts k t) (λ i m. use_of-small p starts k t i sound (omega arith) r))

-- nothing exceeds before a time
abbrev pub AreFineBefore : Project → List ℕ → List ℕ → ℕ → Type 0
AreFineBefore p capacities starts from = (k s : ℕ) → k < p.resources → s < from → usage p starts k s ≤ slice_index capacities k

module _ (p : Project) (capacities starts : List ℕ) (from : ℕ) (fine : AreFineBefore p capacities starts from) where
  -- where no job starts from a time on, no more is used than before it
  pub quiet : (k s : ℕ) → k < p.resources → from ≤ s → ((i : ℕ) → i < length p.jobs → from ≤ slice_index starts i → s < slice_index starts i) → usage p starts k s ≤ slice_index capacities k
  quiet k s r l none = elim (cases_lt 0 from) [
    | inl later ↦ omega (arith, fine k (from - 1) r (omega arith), sum_below-mono (length p.jobs) (use_of p starts k s) (use_of p starts k (from - 1)) (before later))
    | inr first ↦ omega (
      arith,
      sum_below-bound (length p.jobs) 0 (use_of p starts k s) (λ i j. omega (
        arith,
        use_of-idle p starts k s i (λ a.
            let started : slice_index starts i ≤ s = a.started in
            omega (arith, none i j (omega arith))),
      )),
    )
  ]
    where
      before : 0 < from → (i : ℕ) → i < length p.jobs → use_of p starts k s i ≤ use_of p starts k (from - 1) i
      before later i j = elim (active_cases p starts s i) [
        | inl a ↦
            let started : slice_index starts i ≤ s = a.started in
            let runs : s < slice_index starts i + duration p i = a.runs in
            let earlier : slice_index starts i < from = elim (cases_lt (slice_index starts i) from) [ inl less ↦ less | inr most ↦ absurd (omega (arith, none i j most)) ] in
            omega (arith, use_of-active p starts k s i a, use_of-active p starts k (from - 1) i (record { started = omega arith; runs = omega arith }))
        | inr idle ↦ omega (arith, use_of-idle p starts k s i idle)
      ]

  -- so nothing exceeds before the next start
  pub fine-to : (time : ℕ) → ((i : ℕ) → i < length p.jobs → from ≤ slice_index starts i → time ≤ slice_index starts i) → AreFineBefore p capacities starts time
  fine-to time first k s r l = elim (cases_lt s from) [
    | inl before ↦ fine k s r before
    | inr after ↦ quiet k s r after (λ i j m. omega (arith, first i j m))
  ]

-- the loads with one job more, which is active
pub loads-more : (p : Project) (starts : List ℕ) (t n : ℕ) (loads new : List ℕ) → AreLoadsBelow p starts t n loads → IsActive p starts t n → ((k : ℕ) → k < p.resources → slice_index new k ≡ slice_index loads k + request p n k) → AreLoadsBelow p starts t (n + 1) new
loads-more p starts t n loads new h a more k r = omega (arith, h k r, more k r, sum_below-step n (use_of p starts k t), use_of-active p starts k t n a)

-- or which is not
pub loads-same : (p : Project) (starts : List ℕ) (t n : ℕ) (loads : List ℕ) → AreLoadsBelow p starts t n loads → (IsActive p starts t n → ⊥) → AreLoadsBelow p starts t (n + 1) loads
loads-same p starts t n loads h idle k r = omega (arith, h k r, sum_below-step n (use_of p starts k t), use_of-idle p starts k t n idle)

-- no jobs load nothing
pub loads-none : (p : Project) (starts : List ℕ) (t : ℕ) → AreLoadsBelow p starts t 0 (replicate 16 0)
loads-none p starts t k r = zeros 16 k ∙ sym (sum_below-none (use_of p starts k t))

-- all do what is used
pub loads-all : (p : Project) (starts : List ℕ) (t n : ℕ) (loads : List ℕ) → n ≡ length p.jobs → AreLoadsBelow p starts t n loads → (k : ℕ) → k < p.resources → slice_index loads k ≡ usage p starts k t
loads-all p starts t n loads e h k r = h k r ∙ ap (λ (m : ℕ). sum_below m (use_of p starts k t)) e

-- a job is not active before its start
pub not_yet : (p : Project) (starts : List ℕ) (t i : ℕ) → t < slice_index starts i → IsActive p starts t i → ⊥
not_yet p starts t i l a = let started : slice_index starts i ≤ t = a.started in omega arith

-- nor when it is over
pub over_by : (p : Project) (starts : List ℕ) (t i : ℕ) → slice_index starts i + duration p i ≤ t → IsActive p starts t i → ⊥
over_by p starts t i l a = let runs : t < slice_index starts i + duration p i = a.runs in omega arith

module _ (p : Project) (capacities starts loads : List ℕ) (time : ℕ) (fine : AreFineBefore p capacities starts time) (sums : (k : ℕ) → k < p.resources → slice_index loads k ≡ usage p starts k time) where
  -- where nothing exceeds at a time either, nothing does up to it
  pub fine-then : (AreTooMuch p capacities loads → ⊥) → AreFineBefore p capacities starts (time + 1)
  fine-then none k s r l = elim (cases_lt s time) [
    | inl before ↦ fine k s r before
    | inr most ↦
        let here : s ≡ time = omega arith in
        elim (cases_lt (slice_index capacities k) (slice_index loads k)) [
          | inl over ↦ absurd (none (k, r, over))
          | inr fits ↦ omega (arith, fits, sums k r, ap (usage p starts k) here)
        ]
  ]

-- nor before the next start
pub fine-next : (p : Project) (capacities starts : List ℕ) (time next : ℕ) → length starts ≡ length p.jobs → AreFineBefore p capacities starts (time + 1) → IsNextStart starts time next → AreFineBefore p capacities starts next
fine-next p capacities starts time next places fine is = fine-to p capacities starts (time + 1) fine next (λ i j m. is.first i (omega (arith, places)) (omega arith))

-- nor ever, where no start is later
pub fine-ever : (p : Project) (capacities starts : List ℕ) (time : ℕ) → AreFineBefore p capacities starts (time + 1) → ((i : ℕ) → slice_index starts i ≤ time) → IsWithinCapacities p capacities starts
fine-ever p capacities starts time fine last k t r = elim (cases_lt t (time + 1)) [
  | inl before ↦ fine k t r before
  | inr after ↦ quiet p capacities starts (time + 1) fine k t r after (λ i j m. absurd (omega (arith, last i)))
]

-- the next start is later
pub next-later : (starts : List ℕ) (time next : ℕ) → IsNextStart starts time next → time < 4294967295 → time < next
next-later starts time next is l = elim is.some [ inl w ↦ omega (arith, w.2, w.3) | inr none ↦ omega (arith, none) ]
