-- What is used before a time stays or falls where lower bounds are raised to later times.
use Rattle.std.proofs.Common.{◌≡◌, inl, inr, ℕ, ◌+◌, ◌<◌, ◌≤◌, List, length, slice_index, nat_le, if◌then◌else◌, arith, Contains}
use Rattle.std.proofs.lemmas.Bool.{cases_lt}
use Rattle.std.proofs.lemmas.Bool.Decides.{nat_tests}
use Rattle.std.proofs.lemmas.List.{get_or_past}
use Rattle.racp_model.specs.Project.{Project, duration, request, number, place}
use Rattle.racp_model.specs.Window.{Bounds}
use Rattle.racp_model.specs.Schedule.{IsActive, KeepsPrecedence, use_of, usage, sum_below}
use Rattle.racp_model.specs.Path.{IsAtLeast, IsEarly}
use Rattle.racp_model.proofs.lemmas.Lists.{row, row_places, row-at}
use Rattle.racp_model.proofs.lemmas.Sums.{sum_below-mono}
use Rattle.racp_model.proofs.lemmas.Usage.{use_of-active, use_of-idle, active_cases, use_of-request}
use Rattle.racp_model.proofs.lemmas.Decided.{member_decided}
use Rattle.racp_delay.specs.Alternatives.{Splits, load}
use Rattle.racp_delay.specs.Found.{Each}
use Rattle.racp_delay.specs.Branching.{IsActiveSet, IsChild}
use Rattle.racp_delay.specs.Laws.{AreRaisedPast, RaisingLowersUsage, NoConflictBefore, NoConflictThen}
use Rattle.racp_delay.proofs.Each.{each-member, each-map, ascends}
use Rattle.racp_delay.proofs.Splitting.{each-kept, ascends-kept}
use Rattle.racp_delay.proofs.ActiveLoads.{IsActiveJob, each-active, sum-within_load}
use Rattle.racp_delay.proofs.Branching.{in_set}
use Rattle.racp_delay.proofs.Subsets.{others_are_kept}

module _ (p : Project) (t : ℕ) (lower raised : ℕ → ℕ) (early next : List ℕ) (he : IsEarly p lower early) (hn : IsEarly p raised next) (up : AreRaisedPast p t lower raised) where
  -- no early start becomes less
  pub no-earlier : (i : ℕ) → slice_index early i ≤ slice_index next i
  no-earlier i = elim (cases_lt i (length p.jobs)) [
    | inl job ↦ he.least next (λ j l. elim (up j l) [ inl same ↦ omega (arith, same, hn.above j l) | inr more ↦ omega (arith, more.0, hn.above j l) ]) hn.precedence i job
    | inr none ↦ omega (arith, get_or_past early i 0 (omega (arith, he.places)))
  ]

  -- the early starts at those that come at t or earlier, and elsewhere the new ones
  mixed : ℕ → ℕ
  mixed i = if nat_le (slice_index next i) t then slice_index early i else slice_index next i

  mixed-early : (i : ℕ) → slice_index next i ≤ t → mixed i ≡ slice_index early i
  unfolding mixed
  mixed-early i l = grind (arith, nat_tests)

  mixed-late : (i : ℕ) → t < slice_index next i → mixed i ≡ slice_index next i
  unfolding mixed
  mixed-late i l = grind (arith, nat_tests)

  mixed-at : (i : ℕ) → slice_index (row (length p.jobs) mixed) i ≡ mixed i
  mixed-at i = elim (cases_lt i (length p.jobs)) [
    | inl job ↦ row-at (length p.jobs) mixed i job
    | inr none ↦
        omega (arith, get_or_past (row (length p.jobs) mixed) i 0 (omega (arith, row_places (length p.jobs) mixed)), get_or_past early i 0 (omega (arith, he.places)), get_or_past next i 0 (omega (arith, hn.places)), mixed-early i (omega (arith, get_or_past next i 0 (omega (arith, hn.places)))))
  ]

  -- they are above the raised bounds
  mixed-above : IsAtLeast p raised (row (length p.jobs) mixed)
  mixed-above i l = elim (cases_lt t (slice_index next i)) [
    | inl late ↦ omega (arith, mixed-at i, mixed-late i late, hn.above i l)
    | inr soon ↦ elim (up i l) [
      | inl same ↦ omega (arith, same, mixed-at i, mixed-early i soon, he.above i l)
      | inr more ↦ absurd (omega (arith, more.1, hn.above i l))
    ]
  ]

  -- and keep precedence
  mixed-keeps : KeepsPrecedence p (row (length p.jobs) mixed)
  mixed-keeps i j before =
      let by_early : slice_index early i + duration p i ≤ slice_index early j = he.precedence i j before in
      let by_next : slice_index next i + duration p i ≤ slice_index next j = hn.precedence i j before in
      elim (cases_lt t (slice_index next j)) [
        | inl late ↦ elim (cases_lt t (slice_index next i)) [
          | inl both ↦ omega (arith, mixed-at i, mixed-at j, mixed-late i both, mixed-late j late)
          | inr one ↦ omega (arith, mixed-at i, mixed-at j, mixed-early i one, mixed-late j late, no-earlier i)
        ]
        | inr soon ↦ omega (arith, mixed-at i, mixed-at j, mixed-early i (omega arith), mixed-early j soon)
      ]

  -- so the early starts at t or before it are as they were
  pub stays : (i : ℕ) → i < length p.jobs → slice_index next i ≤ t → slice_index next i ≡ slice_index early i
  stays i l soon = omega (arith, hn.least (row (length p.jobs) mixed) mixed-above mixed-keeps i l, mixed-at i, mixed-early i soon, no-earlier i)

  -- a job that is active then was
  pub was-active : (s i : ℕ) → i < length p.jobs → s ≤ t → IsActive p next s i → IsActive p early s i
  was-active s i l w a =
      let started : slice_index next i ≤ s = a.started in
      let runs : s < slice_index next i + duration p i = a.runs in
      let same : slice_index next i ≡ slice_index early i = stays i l (omega arith) in
      record { started = omega arith; runs = omega arith }

  -- and no more is used
  pub no-more : (k s : ℕ) → s ≤ t → usage p next k s ≤ usage p early k s
  no-more k s w = sum_below-mono (length p.jobs) (use_of p next k s) (use_of p early k s) (λ i l. elim (active_cases p next s i) [
    | inl a ↦ omega (arith, use_of-active p next k s i a, use_of-active p early k s i (was-active s i l w a))
    | inr idle ↦ omega (arith, use_of-idle p next k s i idle)
  ])

pub raising_lowers : RaisingLowersUsage
raising_lowers p t lower raised early next he hn up k s w = no-more p t lower raised early next he hn up k s w

-- a job of a conflict that stays ends after it
pub conflict-ends : (p : Project) (early : List ℕ) (t : ℕ) (active gone kept : List ℕ) (window child : Bounds) → IsActiveSet p early t active → Splits active gone kept → (c : IsChild p early window gone kept child) → t < c.end
conflict-ends p early t active gone kept window child set s c =
    let first = c.first.some in
    let ends : IsActiveJob p early t first.0 = each-member (IsActiveJob p early t) kept first.0 (each-kept (IsActiveJob p early t) s (each-active p early t active set)) first.1 in
    let goes_on : t < slice_index early (place first.0) + duration p (place first.0) = ends.1.runs in
    omega (arith, first.2)

-- the lower bounds of a child are raised to after the conflict of its window
pub child-past : (p : Project) (early : List ℕ) (t : ℕ) (active gone kept : List ℕ) (window child : Bounds) → IsActiveSet p early t active → Splits active gone kept → IsChild p early window gone kept child → AreRaisedPast p t (slice_index window.lower) (slice_index child.lower)
child-past p early t active gone kept window child set s c i l = elim (member_decided (number i) gone) [
  | inl goes ↦ inr (omega (arith, c.raised i l goes), omega (arith, conflict-ends p early t active gone kept window child set s c, c.raised i l goes))
  | inr rests ↦ inl (c.same i l rests)
]

-- so before it nothing exceeds
pub none_before : NoConflictBefore
none_before p capacities window early t active gone kept child next he conflict s c hn k r l less =
    omega (arith, no-more p t (slice_index window.lower) (slice_index child.lower) early next he hn (child-past p early t active gone kept window child conflict.set s c) k r (omega arith), conflict.first.before k r l less)

-- and where those that stay can run at once, nothing exceeds then
pub none_then : NoConflictThen
unfolding sum_below
none_then p capacities window early t active gone kept child next he conflict s runs c hn k r =
    let all : Each (IsActiveJob p early t) kept = each-kept (IsActiveJob p early t) s (each-active p early t active conflict.set) in
    let most : usage p next k t ≤ sum_below 0 (use_of p next k t) + load p k kept = sum-within_load p k (length p.jobs) (use_of p next k t) kept 0 (omega arith) (ascends-kept s (ascends active conflict.set.rises))
    (each-map (IsActiveJob p early t) (λ job. 0 < job) kept (λ job x. x.0.0) all)
    (each-map (IsActiveJob p early t) (λ job. (job ≤ length p.jobs) × (use_of p next k t (place job) ≤ request p (place job) k)) kept (λ job x. (x.0.1, use_of-request p next k t (place job))) all)
    (λ i a b out. use_of-idle p next k t i (λ x. out (stays-in i b x))) in
    omega (arith, runs k r)
  where
    past : AreRaisedPast p t (slice_index window.lower) (slice_index child.lower)
    past = child-past p early t active gone kept window child conflict.set s c

    later : t < c.end
    later = conflict-ends p early t active gone kept window child conflict.set s c

    stays-in : (i : ℕ) → i < length p.jobs → IsActive p next t i → Contains kept (number i)
    stays-in i l x =
        let started : slice_index next i ≤ t = x.started in
        let was : IsActive p early t i = was-active p t (slice_index window.lower) (slice_index child.lower) early next he hn past t i l (omega arith) x in
        (others_are_kept active gone kept conflict.set.rises s (number i)).1 (
          in_set p early t active conflict.set i l was,
          λ goes. absurd (omega (arith, c.raised i l goes, later, hn.above i l)),
        )
