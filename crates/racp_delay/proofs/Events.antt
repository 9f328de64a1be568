-- The jobs by rising times, and what those up to a time request together.
use Rattle.std.proofs.Common.{◌≡◌, inl, inr, ℕ, zero, suc, ◌+◌, ◌<◌, ◌≤◌, nat_le, if◌then◌else◌, List, [], ◌∷◌, length, map, take, slice_index, slice_index_or, set, arith, refl, ap, sym, ◌∙◌, subst, All, get_or-set_same, get_or-set_other, add-one}
use Rattle.std.specs.List.{sum_by, range_with_len}
use Rattle.std.proofs.lemmas.Bool.{cases_lt}
use Rattle.std.proofs.lemmas.Bool.Decides.{nat_tests}
use Rattle.std.proofs.lemmas.List.FromFn.{length-map-range_with_len, get_or-map-range_with_len, fill_by_all, sum_by-map-range_with_len_more}
use Rattle.std.proofs.lemmas.List.Sums.{sum_by-cons}
use Rattle.std.proofs.lemmas.List.Sorted.{sum_by-IsPermutation, All-permutation, length_permutation}
use Rattle.racp_model.specs.Project.{Project, duration, request, number, place, IsNumber}
use Rattle.racp_model.specs.Schedule.{use_of, usage, sum_below}
use Rattle.racp_model.proofs.lemmas.Sums.{sum_below-mono}
use Rattle.racp_model.proofs.lemmas.Usage.{use_of-active, use_of-idle}
use Rattle.racp_delay.specs.Sweeps.{events_of, time_at, AreEvents, event_load}

-- the event at a place
abbrev pub event_at : List (ℕ × ℕ) → ℕ → ℕ × ℕ
event_at events q = slice_index_or events q (0, 0)

-- a row whose first events are written
abbrev pub AreWrittenTo : (ℕ → ℕ) → ℕ → List (ℕ × ℕ) → Type 0
AreWrittenTo time n events = (q : ℕ) → q < n → event_at events q ≡ (time q, number q)

-- one more
pub event-written : (time : ℕ → ℕ) (n : ℕ) (events next : List (ℕ × ℕ)) (t job : ℕ) → AreWrittenTo time n events → n < length events → next ≡ set events n (t, job) → t ≡ time n → job ≡ number n → AreWrittenTo time (n + 1) next
event-written time n events next t job h l e is_time is_job q less = elim (cases_lt q n) [
  | inl before ↦ ap (λ (xs : List (ℕ × ℕ)). event_at xs q) e ∙ (get_or-set_other events n q (t, job) (0, 0) (omega arith) ∙ h q before)
  | inr most ↦
      let here : q ≡ n = omega arith in
      ap (λ (xs : List (ℕ × ℕ)). event_at xs q) e ∙ (ap (λ (i : ℕ). event_at (set events n (t, job)) i) here
      ∙ (get_or-set_same events n (t, job) (0, 0) l ∙ (λ i. (is_time i, is_job i)) ∙ sym (ap (λ (i : ℕ). (time i, number i)) here)))
]

-- all are
pub events-written : (p : Project) (time : ℕ → ℕ) (n : ℕ) (events : List (ℕ × ℕ)) → length events ≡ length p.jobs → n ≡ length p.jobs → AreWrittenTo time n events → events ≡ events_of p time
events-written p time n events len e h = fill_by_all (λ i. (time i, number i)) events (length p.jobs) (0, 0) len (λ k l. h k (omega (arith, e)))

-- there is an event for each job
pub events-length : (p : Project) (time : ℕ → ℕ) (events : List (ℕ × ℕ)) → AreEvents p time events → length events ≡ length p.jobs
events-length p time events h = length_permutation (events_of p time) events h.same ∙ length-map-range_with_len (λ i. (time i, number i)) 0 (length p.jobs)

-- an event is the time and the number of a job
abbrev pub IsEvent : Project → (ℕ → ℕ) → ℕ × ℕ → Type 0
IsEvent p time event = IsNumber (length p.jobs) event.1 × (event.0 ≡ time (place event.1))

pub each-event : (p : Project) (time : ℕ → ℕ) (events : List (ℕ × ℕ)) → AreEvents p time events → All (IsEvent p time) events
each-event p time events h = All-permutation (IsEvent p time) (events_of p time) events h.same at_start
  where
    at_start : All (IsEvent p time) (events_of p time)
    at_start i d l =
        let less : i < length p.jobs = omega (arith, length-map-range_with_len {X = ℕ × ℕ} (λ j. (time j, number j)) 0 (length p.jobs)) in
        let is : slice_index_or (events_of p time) i d ≡ (time i, number i) = get_or-map-range_with_len (λ j. (time j, number j)) 0 (length p.jobs) i i d less (omega arith) in
        let e : i ≡ place (number i) = omega arith in
        subst (IsEvent p time) (sym is) ((omega arith, omega arith), ap time e)

-- what a job requests, where its time is t or earlier
unfoldable pub due : Project → ℕ → ℕ → ℕ × ℕ → ℕ
due p k t event = if nat_le event.0 t then request p (place event.1) k else 0

-- what all jobs whose time is t or earlier request
abbrev pub total : Project → (ℕ → ℕ) → ℕ → ℕ → ℕ
total p time k t = sum_below (length p.jobs) (λ i. due p k t (time i, number i))

-- a sum over the jobs, by place
pub sum-range : (f : ℕ × ℕ → ℕ) (g : ℕ → ℕ × ℕ) (n : ℕ) → sum_by f (map g (range_with_len 0 n)) ≡ sum_below n (λ i. f (g i))
unfolding sum_below
sum-range f g zero = refl
sum-range f g (suc n) = ap (λ (m : ℕ). sum_by f (map g (range_with_len 0 m))) (sym (add-one n)) ∙ (sum_by-map-range_with_len_more f g 0 n n (omega arith) ∙ ap (λ (s : ℕ). s + f (g n)) (sum-range f g n))

-- and over their events
pub sum-events : (p : Project) (time : ℕ → ℕ) (events : List (ℕ × ℕ)) (k t : ℕ) → AreEvents p time events → sum_by (due p k t) events ≡ total p time k t
sum-events p time events k t h = sum_by-IsPermutation (due p k t) (events_of p time) events h.same ∙ sum-range (due p k t) (λ i. (time i, number i)) (length p.jobs)

-- the sum over no elements, and the first elements by one more
pub sum-take_zero : (f : ℕ × ℕ → ℕ) (xs : List (ℕ × ℕ)) → sum_by f (take zero xs) ≡ 0
sum-take_zero f [] = refl
sum-take_zero f (x ∷ xs) = refl

pub take-cons : (x : ℕ × ℕ) (xs : List (ℕ × ℕ)) (m : ℕ) → take (suc m) (x ∷ xs) ≡ x ∷ take m xs
take-cons x xs m = refl

-- a sum over the first of a list, where the others are 0
pub first-sum : (f g : ℕ × ℕ → ℕ) (xs : List (ℕ × ℕ)) (m : ℕ) → ((q : ℕ) → q < m → q < length xs → f (event_at xs q) ≡ g (event_at xs q)) → ((q : ℕ) → m ≤ q → q < length xs → g (event_at xs q) ≡ 0) → sum_by f (take m xs) ≡ sum_by g xs
first-sum f g [] zero same none = refl
first-sum f g [] (suc m) same none = refl
first-sum f g (x ∷ xs) zero same none =
    let rest : sum_by f (take zero xs) ≡ sum_by g xs = first-sum f g xs zero (λ q l w. absurd (omega arith)) (λ q m w. none (suc q) (omega arith) (omega arith)) in
    let nothing : sum_by f (take zero xs) ≡ 0 = sum-take_zero f xs in
    omega (arith, none zero (omega arith) (omega arith), rest, sum_by-cons g x xs, sum-take_zero f (x ∷ xs))
first-sum f g (x ∷ xs) (suc m) same none =
    let rest : sum_by f (take m xs) ≡ sum_by g xs = first-sum f g xs m (λ q l w. same (suc q) (omega arith) (omega arith)) (λ q l w. none (suc q) (omega arith) (omega arith)) in
    omega (arith, same zero (omega arith) (omega arith), rest, sum_by-cons g x xs, sum_by-cons f x (take m xs), ap (sum_by f) (take-cons x xs m))

-- and where the others may be more
pub first-sum-le : (f g : ℕ × ℕ → ℕ) (xs : List (ℕ × ℕ)) (m : ℕ) → ((q : ℕ) → q < m → q < length xs → f (event_at xs q) ≤ g (event_at xs q)) → sum_by f (take m xs) ≤ sum_by g xs
first-sum-le f g [] zero same = omega arith
first-sum-le f g [] (suc m) same = omega arith
first-sum-le f g (x ∷ xs) zero same = omega (arith, sum-take_zero f (x ∷ xs))
first-sum-le f g (x ∷ xs) (suc m) same =
    let rest : sum_by f (take m xs) ≤ sum_by g xs = first-sum-le f g xs m (λ q l w. same (suc q) (omega arith) (omega arith)) in
    omega (arith, same zero (omega arith) (omega arith), rest, sum_by-cons g x xs, sum_by-cons f x (take m xs), ap (sum_by f) (take-cons x xs m))

-- a job whose time is t or earlier, and one whose time is later
pub due-by : (p : Project) (k t : ℕ) (event : ℕ × ℕ) → event.0 ≤ t → due p k t event ≡ request p (place event.1) k
unfolding due
due-by p k t event l = grind (arith, nat_tests)

pub due-later : (p : Project) (k t : ℕ) (event : ℕ × ℕ) → t < event.0 → due p k t event ≡ 0
unfolding due
due-later p k t event l = grind (arith, nat_tests)

module _ (p : Project) (time : ℕ → ℕ) (events : List (ℕ × ℕ)) (h : AreEvents p time events) where
  -- the first events load what all jobs up to t request, where they are those up to t
  pub load-total : (k t m : ℕ) → ((q : ℕ) → q < m → time_at events q ≤ t) → ((q : ℕ) → m ≤ q → q < length events → t < time_at events q) → event_load p k (take m events) ≡ total p time k t
  unfolding event_load
  load-total k t m by later =
      first-sum (λ event. request p (place event.1) k) (due p k t) events m (λ q l w. sym (due-by p k t (event_at events q) (by q l))) (λ q l w. due-later p k t (event_at events q) (later q l w)) ∙ sum-events p time events k t h

  -- and at most that, where they are among them
  pub load-most : (k t m : ℕ) → ((q : ℕ) → q < m → q < length events → time_at events q ≤ t) → event_load p k (take m events) ≤ total p time k t
  unfolding event_load
  load-most k t m by =
      let most : sum_by (λ event. request p (place event.1) k) (take m events) ≤ sum_by (due p k t) events = first-sum-le (λ event. request p (place event.1) k) (due p k t) events m (λ q l w. omega (arith, due-by p k t (event_at events q) (by q l w))) in
      omega (arith, sum-events p time events k t h)

-- the first n places: those with a time up to t come first
pub split_at : (time : ℕ → ℕ) (n : ℕ) (t : ℕ) → ((a b : ℕ) → a ≤ b → b < n → time a ≤ time b) → (m : ℕ) × (m ≤ n) × ((q : ℕ) → q < m → time q ≤ t) × ((q : ℕ) → m ≤ q → q < n → t < time q)
split_at time zero t rises = (0, omega arith, (λ q l. absurd (omega arith)), λ q l w. absurd (omega arith))
split_at time (suc n) t rises =
    let h = split_at time n t (λ a b l w. rises a b l (omega arith)) in
    elim (cases_lt t (time n)) [
      | inl later ↦ (
        h.0,
        omega (arith, h.1),
        h.2,
        λ q l w. elim (cases_lt q n) [ inl less ↦ h.3 q l less | inr most ↦ (let e : n ≡ q = omega arith in subst (λ (i : ℕ). t < time i) e later) ],
      )
      | inr by ↦ (suc n, omega arith, (λ q l. omega (arith, rises q n (omega arith) (omega arith))), λ q l w. absurd (omega arith))
    ]

-- a job uses what it requests if it has started and not ended
pub use-by_events : (p : Project) (starts : List ℕ) (k t i : ℕ) → use_of p starts k t i + due p k t (slice_index starts i + duration p i, number i) ≡ due p k t (slice_index starts i, number i)
use-by_events p starts k t i =
    let same : request p (place (number i)) k ≡ request p i k = (let e : place (number i) ≡ i = omega arith in ap (λ (j : ℕ). request p j k) e) in
    elim (cases_lt t (slice_index starts i)) [
      | inl before ↦
          omega (arith, use_of-idle p starts k t i (λ a. (let started : slice_index starts i ≤ t = a.started in omega arith)), due-later p k t (slice_index starts i, number i) before, due-later p k t (slice_index starts i + duration p i, number i) (omega arith))
      | inr started ↦ elim (cases_lt t (slice_index starts i + duration p i)) [
        | inl runs ↦
            omega (arith, same, use_of-active p starts k t i (record { started = started; runs = runs }), due-by p k t (slice_index starts i, number i) started, due-later p k t (slice_index starts i + duration p i, number i) runs)
        | inr over ↦
            omega (arith, use_of-idle p starts k t i (λ a. (let runs : t < slice_index starts i + duration p i = a.runs in omega arith)), due-by p k t (slice_index starts i, number i) started, due-by p k t (slice_index starts i + duration p i, number i) over)
      ]
    ]

-- two sums and their sum
pub sum_below-parts : (n : ℕ) (f g h : ℕ → ℕ) → ((i : ℕ) → f i + g i ≡ h i) → sum_below n f + sum_below n g ≡ sum_below n h
unfolding sum_below
sum_below-parts zero f g h e = refl
sum_below-parts (suc n) f g h e = omega (arith, e n, sum_below-parts n f g h e)

-- when each job ends
abbrev pub ends_of : Project → List ℕ → ℕ → ℕ
ends_of p starts i = slice_index starts i + duration p i

-- what is used, and what the ended jobs request, is what the started jobs request
pub usage-by_events : (p : Project) (starts : List ℕ) (k t : ℕ) → usage p starts k t + total p (ends_of p starts) k t ≡ total p (slice_index starts) k t
usage-by_events p starts k t = sum_below-parts (length p.jobs) (use_of p starts k t) (λ i. due p k t (ends_of p starts i, number i)) (λ i. due p k t (slice_index starts i, number i)) (use-by_events p starts k t)

-- later, more are due
pub total-later : (p : Project) (time : ℕ → ℕ) (k s t : ℕ) → s ≤ t → total p time k s ≤ total p time k t
total-later p time k s t l = sum_below-mono (length p.jobs) (λ i. due p k s (time i, number i)) (λ i. due p k t (time i, number i)) (λ i w. elim (cases_lt s (time i)) [
  | inl not_yet ↦ omega (arith, due-later p k s (time i, number i) not_yet)
  | inr already ↦ omega (arith, due-by p k s (time i, number i) already, due-by p k t (time i, number i) (omega arith))
])
