-- The sweep over the starts, in which the jobs that started are set against those that ended.
use Rattle.std.proofs.Common.{◌≡◌, inl, inr, ℕ, zero, suc, ◌+◌, ◌*◌, ◌<◌, ◌≤◌, List, [], ◌∷◌, length, take, slice_index, arith, refl, ap, sym, ◌∙◌, subst, All, replicate, add-one}
use Rattle.std.proofs.lemmas.Bool.{cases_lt}
use Rattle.std.proofs.lemmas.List.{take_all}
use Rattle.std.proofs.lemmas.List.Sums.{sum_by-cons}
use Rattle.racp_model.specs.Project.{Project, place, request, IsSound}
use Rattle.racp_model.specs.Schedule.{usage, IsWithinCapacities}
use Rattle.racp_model.proofs.lemmas.Sums.{request-small}
use Rattle.racp_model.proofs.lemmas.Zeros.{zeros}
use Rattle.racp_delay.specs.Branching.{IsFirstExcess}
use Rattle.racp_delay.specs.Sweeps.{time_at, AreEvents, event_load, AreFirstLoads, AreTaken, Exceeds}
use Rattle.racp_delay.proofs.Events.{event_at, IsEvent, events-length, each-event, total, ends_of, load-total, load-most, split_at, usage-by_events, total-later}

-- no events load nothing
pub event_load-none : (p : Project) (k : ℕ) (events : List (ℕ × ℕ)) → event_load p k (take 0 events) ≡ 0
unfolding event_load
event_load-none p k [] = refl
event_load-none p k (x ∷ xs) = refl

-- the first events and one more
pub event_load-suc : (p : Project) (k : ℕ) (events : List (ℕ × ℕ)) (m : ℕ) → m < length events → event_load p k (take (suc m) events) ≡ event_load p k (take m events) + request p (place (event_at events m).1) k
unfolding event_load
event_load-suc p k [] m l = absurd (omega arith)
event_load-suc p k (x ∷ xs) zero l = omega (arith, sum_by-cons (λ (event : ℕ × ℕ). request p (place event.1) k) x (take zero xs), event_load-none p k xs, event_load-none p k (x ∷ xs))
event_load-suc p k (x ∷ xs) (suc m) l =
    omega (arith, event_load-suc p k xs m (omega arith), sum_by-cons (λ (event : ℕ × ℕ). request p (place event.1) k) x (take (suc m) xs), sum_by-cons (λ (event : ℕ × ℕ). request p (place event.1) k) x (take m xs))

pub event_load-more : (p : Project) (k : ℕ) (events : List (ℕ × ℕ)) (m : ℕ) → m < length events → event_load p k (take (m + 1) events) ≡ event_load p k (take m events) + request p (place (event_at events m).1) k
event_load-more p k events m l = ap (λ (n : ℕ). event_load p k (take n events)) (add-one m) ∙ event_load-suc p k events m l

-- the loads of first events are small
pub event_load-small : (p : Project) (time : ℕ → ℕ) (events : List (ℕ × ℕ)) → IsSound p → AreEvents p time events → (m k : ℕ) → k < p.resources → event_load p k (take m events) ≤ 5120000
event_load-small p time events sound h m k l =
    let most : event_load p k (take m events) ≤ 10000 * length events = upto m in
    omega (arith, most, events-length p time events h, sound.limits.most_jobs)
  where
    each : All (IsEvent p time) events
    each = each-event p time events h

    within : (n : ℕ) → n ≤ length events → event_load p k (take n events) ≤ 10000 * n
    within zero w = omega (arith, event_load-none p k events)
    within (suc n) w =
        let is : IsEvent p time (event_at events n) = each n (0, 0) w in
        omega (arith, within n (omega arith), event_load-more p k events n w, ap (λ (i : ℕ). event_load p k (take i events)) (add-one n), request-small p (place (event_at events n).1) k sound (omega (arith, is.0.0, is.0.1)) l)

    beyond : (xs : List (ℕ × ℕ)) (n : ℕ) → length xs ≤ n → event_load p k (take n xs) ≡ event_load p k xs
    beyond xs n w = ap (event_load p k) (take_all n xs w)

    upto : (n : ℕ) → event_load p k (take n events) ≤ 10000 * length events
    upto n = elim (cases_lt (length events) n) [
      | inl past ↦ omega (arith, beyond events n (omega arith), beyond events (length events) (omega arith), within (length events) (omega arith))
      | inr w ↦ omega (arith, within n w)
    ]

module _ (p : Project) (capacities starts : List ℕ) (by_start by_end : List (ℕ × ℕ)) where
  -- at each of the first starts, the jobs up to it load no more than the capacities and the jobs that ended by then
  abbrev pub AreChecked : ℕ → Type 0
  AreChecked n = (q k : ℕ) → q < n → k < p.resources → event_load p k (take (q + 1) by_start) ≤ slice_index capacities k + total p (ends_of p starts) k (time_at by_start q)

  -- the sweep before place n of the starts, with the loads of the started and the ended jobs
  pub record IsSweeping (n count : ℕ) (started ended : List ℕ) : Type 0 where
    pub begun : AreFirstLoads p by_start n started
    pub within : count ≤ length by_end
    pub over : AreFirstLoads p by_end count ended
    pub past : (q r : ℕ) → q < count → n ≤ r → r < length by_start → time_at by_end q ≤ time_at by_start r
    pub checked : AreChecked n

module _ (p : Project) (capacities starts : List ℕ) (by_start by_end : List (ℕ × ℕ)) (hs : AreEvents p (slice_index starts) by_start) (he : AreEvents p (ends_of p starts) by_end) where
  -- so before the next start no more is used than there is
  pub fine-before : (n s : ℕ) → AreChecked p capacities starts by_start by_end n → ((q : ℕ) → n ≤ q → q < length by_start → s < time_at by_start q) → (k : ℕ) → k < p.resources → usage p starts k s ≤ slice_index capacities k
  fine-before n s checked later k l =
      let h = split_at (time_at by_start) (length by_start) s hs.rises in
      go h.0 h.1 h.2 h.3
    where
      go : (m : ℕ) → m ≤ length by_start → ((q : ℕ) → q < m → time_at by_start q ≤ s) → ((q : ℕ) → m ≤ q → q < length by_start → s < time_at by_start q) → usage p starts k s ≤ slice_index capacities k
      go zero w by after =
          omega (arith, usage-by_events p starts k s, load-total p (slice_index starts) by_start hs k s zero by after, event_load-none p k by_start)
      go (suc q) w by after =
          let before : q < n = elim (cases_lt q n) [ inl less ↦ less | inr most ↦ absurd (omega (arith, later q most w, by q (omega arith))) ] in
          let sums : event_load p k (take (q + 1) by_start) ≡ total p (slice_index starts) k s = ap (λ (i : ℕ). event_load p k (take i by_start)) (add-one q) ∙ load-total p (slice_index starts) by_start hs k s (suc q) by after in
          omega (arith, usage-by_events p starts k s, sums, checked q k before l, total-later p (ends_of p starts) k (time_at by_start q) s (by q (omega arith)))

  -- where all starts are checked, the capacities are kept
  pub never-exceeds : (n : ℕ) → length by_start ≤ n → AreChecked p capacities starts by_start by_end n → IsWithinCapacities p capacities starts
  never-exceeds n l checked k t r = fine-before n t checked (λ q m w. absurd (omega arith)) k r

  -- at the start nothing is loaded
  pub sweeping-start : IsSweeping p capacities starts by_start by_end 0 0 (replicate 16 0) (replicate 16 0)
  sweeping-start = record {
    begun = λ k l. zeros 16 k ∙ sym (event_load-none p k by_start);
    within = omega arith;
    over = λ k l. zeros 16 k ∙ sym (event_load-none p k by_end);
    past = λ q r l m w. absurd (omega arith);
    checked = λ q k l m. absurd (omega arith);
  }

  module _ (n count count' : ℕ) (started ended started' ended' : List ℕ) (time : ℕ) (h : IsSweeping p capacities starts by_start by_end n count started ended) (l : n < length by_start) (is_time : time ≡ time_at by_start n)
      (more : (k : ℕ) → k < p.resources → slice_index started' k ≡ slice_index started k + request p (place (event_at by_start n).1) k) (taken : AreTaken p by_end count time count' ended') where
    -- the loads of the started jobs
    pub started-is : AreFirstLoads p by_start (n + 1) started'
    started-is k r = omega (arith, more k r, h.begun k r, event_load-more p k by_start n l)

    -- all ends that were taken are past
    pub ends-past : (q : ℕ) → q < count' → time_at by_end q ≤ time
    ends-past q less = elim (cases_lt q count) [
      | inl before ↦ omega (arith, h.past q n before (omega arith) l)
      | inr after ↦ taken.past q after less
    ]

    -- and all past ends were taken
    pub ended-is : (k : ℕ) → k < p.resources → slice_index ended' k ≡ total p (ends_of p starts) k time
    ended-is k r = taken.sums k r ∙ load-total p (ends_of p starts) by_end he k time count' ends-past (λ q m w. omega (arith, taken.stop (omega arith), he.rises count' q m w))

    -- the time is that of the first conflict
    pub sweeping-stop : Exceeds p capacities started' ended' → IsFirstExcess p capacities starts time
    sweeping-stop more_than = record {
      before = λ k s r less. fine-before n s h.checked (λ q m w. omega (arith, hs.rises n q m w)) k r;
      exceeds = (
        more_than.0,
        more_than.1,
        omega (arith, more_than.2, started-is more_than.0 more_than.1, ended-is more_than.0 more_than.1, usage-by_events p starts more_than.0 time, load-most p (slice_index starts) by_start hs more_than.0 time (n + 1) (λ q q_before w. omega (arith, hs.rises q n (omega arith) l))),
      );
    }

    -- or the sweep goes on
    pub sweeping-next : (Exceeds p capacities started' ended' → ⊥) → IsSweeping p capacities starts by_start by_end (n + 1) count' started' ended'
    sweeping-next fine = record {
      begun = started-is;
      within = taken.within;
      over = taken.sums;
      past = λ q r less m w. omega (arith, ends-past q less, hs.rises n r (omega arith) w);
      checked = λ q k less r. elim (cases_lt q n) [
        | inl before ↦ h.checked q k before r
        | inr most ↦
            let here : n ≡ q = omega arith in
            let kept : slice_index started' k ≤ slice_index capacities k + slice_index ended' k = at_most k r in
            let now : event_load p k (take (n + 1) by_start) ≤ slice_index capacities k + total p (ends_of p starts) k (time_at by_start n) =
            omega (arith, started-is k r, ended-is k r, ap (total p (ends_of p starts) k) is_time) in
            subst (λ (i : ℕ). event_load p k (take (i + 1) by_start) ≤ slice_index capacities k + total p (ends_of p starts) k (time_at by_start i)) here now
      ];
    }
      where
        at_most : (k : ℕ) → k < p.resources → slice_index started' k ≤ slice_index capacities k + slice_index ended' k
        at_most k r = elim (cases_lt (slice_index capacities k + slice_index ended' k) (slice_index started' k)) [ inl over ↦ absurd (fine (k, r, over)) | inr kept ↦ kept ]
