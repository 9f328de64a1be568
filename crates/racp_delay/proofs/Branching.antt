-- Why branching over minimal delaying alternatives loses nothing.
use Rattle.std.proofs.Common.{◌≡◌, ◌≢◌, ℕ, ◌+◌, ◌-◌, ◌<◌, ◌≤◌, ◌⊎◌, inl, inr, List, [], length, slice_index, arith, ap, subst, Contains}
use Rattle.std.proofs.lemmas.Bool.{cases_lt}
use Rattle.racp_model.specs.Project.{Project, duration, number, place}
use Rattle.racp_model.specs.Schedule.{IsActive, use_of, usage, IsWithinCapacities}
use Rattle.racp_model.specs.Window.{Bounds, LiesIn}
use Rattle.racp_model.proofs.lemmas.Usage.{use_of-idle}
use Rattle.racp_model.proofs.lemmas.Sums.{sum_below-bound}
use Rattle.racp_model.proofs.lemmas.Decided.{member_decided}
use Rattle.racp_delay.specs.Alternatives.{Splits, CanRun, IsMinimalDelayingAlternative}
use Rattle.racp_delay.specs.Found.{Each}
use Rattle.racp_delay.specs.Branching.{IsConflict, IsActiveSet, IsFirstEnd, IsChild, end_of}
use Rattle.racp_delay.specs.Laws.{BranchingLosesNothing, ChildrenCover, ChildIsInside}
use Rattle.racp_delay.proofs.Each.{each-map, each-both, each-member, each-members, some-each, some_not_empty, least_of, Some_of, ascends}
use Rattle.racp_delay.proofs.Splitting.{each-kept, each-gone, some-splits, split_by, ascends-kept, stays_not_empty}
use Rattle.racp_delay.proofs.Tight.{minimal-from_tight, minimal_inside}
use Rattle.racp_delay.proofs.ActiveLoads.{IsActiveJob, each-active, load-active}

-- the jobs that go start when the first of those that stay has ended, or later
abbrev pub IsPutOff : Project → List ℕ → List ℕ → List ℕ → List ℕ → Type 0
IsPutOff p early gone kept starts = (end : ℕ) → IsFirstEnd p early kept end → Each (λ job. end ≤ slice_index starts (place job)) gone

-- a minimal alternative that was put off
pub record PutsOff (p : Project) (capacities early active starts : List ℕ) : Type 0 where
  pub gone : List ℕ
  pub kept : List ℕ
  pub splits : Splits active gone kept
  pub some_stay : kept ≢ []
  pub minimal : IsMinimalDelayingAlternative p capacities active gone
  pub off : IsPutOff p early gone kept starts

-- a job starts before a time or not
pub before_or_not : (f s : ℕ) → (f ≤ s) ⊎ (s < f)
before_or_not f s = elim (cases_lt s f) [ inl less ↦ inr less | inr most ↦ inl most ]

module _ (p : Project) (capacities early : List ℕ) (t : ℕ) (active starts : List ℕ) (set : IsActiveSet p early t active)
    (above : (i : ℕ) → i < length p.jobs → slice_index early i ≤ slice_index starts i) where
  -- the active jobs, some of which go because they start at f or later, where f is the first end of an active job
  module _ (f : ℕ) (gone kept : List ℕ) (splits : Splits active gone kept) (later : Each (λ job. f ≤ slice_index starts (place job)) gone)
      (sooner : Each (λ job. slice_index starts (place job) < f) kept) (ends : Each (λ job. f ≤ end_of p starts job) active) (first : Some_of (λ job. end_of p starts job ≡ f) active) where
    -- the one that ends first stays
    pub first_stays : Some_of (λ job. end_of p starts job ≡ f) kept
    first_stays = elim (some-splits (λ job. end_of p starts job ≡ f) splits first) [
      | inl out ↦
          let w = some-each (λ job. end_of p starts job ≡ f) (λ job. (f ≤ slice_index starts (place job)) × IsActiveJob p early t job) gone out
          (each-both (λ job. f ≤ slice_index starts (place job)) (IsActiveJob p early t) gone later (each-gone (IsActiveJob p early t) splits (each-active p early t active set))) in
          let started : slice_index early (place w.0) ≤ t = w.2.1.1.started in
          let goes_on : t < slice_index early (place w.0) + duration p (place w.0) = w.2.1.1.runs in
          absurd (omega (arith, w.1, w.2.0))
      | inr stay ↦ stay
    ]

    -- just before f all that stay are active
    pub all_active : Each (IsActiveJob p starts (f - 1)) kept
    all_active =
        let just_before : (job : ℕ) → (slice_index starts (place job) < f) × (IsActiveJob p early t job × (f ≤ end_of p starts job)) → IsActiveJob p starts (f - 1) job = λ job x.
        let end : f ≤ slice_index starts (place job) + duration p (place job) = x.1.1 in
        let start : slice_index starts (place job) < f = x.0 in
        (x.1.0.0, record { started = omega arith; runs = omega arith }) in
        let both : Each (λ job. IsActiveJob p early t job × (f ≤ end_of p starts job)) kept =
        each-both (IsActiveJob p early t) (λ job. f ≤ end_of p starts job) kept (each-kept (IsActiveJob p early t) splits (each-active p early t active set)) (each-kept (λ job. f ≤ end_of p starts job) splits ends) in
        let all_three : Each (λ job. (slice_index starts (place job) < f) × (IsActiveJob p early t job × (f ≤ end_of p starts job))) kept =
        each-both (λ job. slice_index starts (place job) < f) (λ job. IsActiveJob p early t job × (f ≤ end_of p starts job)) kept sooner both in
        each-map (λ job. (slice_index starts (place job) < f) × (IsActiveJob p early t job × (f ≤ end_of p starts job))) (IsActiveJob p starts (f - 1)) kept just_before all_three

    -- so they can run at once
    pub at_once : IsWithinCapacities p capacities starts → CanRun p capacities kept
    at_once within k l = omega (arith, load-active p starts k (f - 1) kept (ascends-kept splits (ascends active set.rises)) all_active, within k (f - 1) l)

    -- and the first end, in the early starts, of a list with those that stay is f or earlier
    pub first_end : (more stay : List ℕ) → Splits stay more kept → (m : ℕ) → IsFirstEnd p early stay m → m ≤ f
    first_end more stay s m is_first =
        let earlier : Each (λ job. m ≤ end_of p early job) kept = each-kept (λ job. m ≤ end_of p early job) s (each-members (λ job. m ≤ end_of p early job) stay is_first.first) in
        let w = some-each (λ job. end_of p starts job ≡ f) (λ job. (m ≤ end_of p early job) × IsActiveJob p early t job) kept first_stays
        (each-both (λ job. m ≤ end_of p early job) (IsActiveJob p early t) kept earlier (each-kept (IsActiveJob p early t) splits (each-active p early t active set))) in
        omega (arith, w.1, w.2.0, above (place w.0) (omega (arith, w.2.1.0.0, w.2.1.0.1)))

    -- a minimal alternative among those that go was put off
    pub puts_off : IsWithinCapacities p capacities starts → PutsOff p capacities early active starts
    puts_off within =
        let h = minimal_inside p capacities active (length gone) gone kept (omega arith) splits (at_once within) in
        record {
          gone = h.part;
          kept = h.stay;
          splits = h.splits;
          some_stay = stays_not_empty h.holds.1 (some_not_empty (λ job. end_of p starts job ≡ f) kept first_stays);
          minimal = minimal-from_tight p capacities active h.part h.stay h.splits h.tight;
          off = λ m is_first.
              let soon : m ≤ f = first_end h.holds.0 h.stay h.holds.1 m is_first in
              each-map (λ job. f ≤ slice_index starts (place job)) (λ job. m ≤ slice_index starts (place job)) h.part (λ job x. omega arith) (each-gone (λ job. f ≤ slice_index starts (place job)) h.part_of.1 later);
        }

  -- whatever starts fit: some minimal alternative other than the whole active set was put off in them
  pub branching : active ≢ [] → IsWithinCapacities p capacities starts → PutsOff p capacities early active starts
  branching some within =
      let least = least_of (end_of p starts) active some in
      let parts = split_by (λ job. least.0 ≤ slice_index starts (place job)) (λ job. slice_index starts (place job) < least.0) (λ job. before_or_not least.0 (slice_index starts (place job))) active in
      puts_off least.0 parts.0 parts.1 parts.2 parts.3 parts.4 least.1 least.2 within

-- where nothing is active, nothing is used
pub usage-none : (p : Project) (starts : List ℕ) (k t : ℕ) → ((i : ℕ) → i < length p.jobs → IsActive p starts t i → ⊥) → usage p starts k t ≡ 0
usage-none p starts k t none_active = omega (arith, sum_below-bound (length p.jobs) 0 (use_of p starts k t) (λ i l. omega (arith, use_of-idle p starts k t i (none_active i l))))

-- an active job is in the active set
pub in_set : (p : Project) (starts : List ℕ) (t : ℕ) (active : List ℕ) → IsActiveSet p starts t active → (i : ℕ) → i < length p.jobs → IsActive p starts t i → Contains active (number i)
in_set p starts t active set i l x =
    let e : i ≡ place (number i) = omega arith in
    (set.members (number i)).1 ((omega arith, omega arith), subst (IsActive p starts t) e x)

-- some job is active at a conflict
pub conflict_active : (p : Project) (capacities starts : List ℕ) (t : ℕ) (active : List ℕ) → IsConflict p capacities starts t active → active ≢ []
conflict_active p capacities starts t active conflict e =
    let nobody : (i : ℕ) → i < length p.jobs → IsActive p starts t i → ⊥ = λ i l a.
    let in' : Contains [] (number i) = let P : List ℕ → Type 0 = λ x. Contains x (number i) in subst P e (in_set p starts t active conflict.set i l a) in
    absurd (omega (arith, in'.1)) in
    absurd (omega (arith, conflict.first.exceeds.2, usage-none p starts conflict.first.exceeds.0 t nobody))

-- starts in which the alternative was put off lie in the child
pub lies_in_child : (p : Project) (early gone kept starts : List ℕ) (window child : Bounds) → IsChild p early window gone kept child → IsPutOff p early gone kept starts → LiesIn p window starts → LiesIn p child starts
lies_in_child p early gone kept starts window child c off lies = record {
  places = lies.places;
  above = λ i l. above i l;
  below = λ i l. omega (arith, lies.below i l, ap (λ (x : List ℕ). slice_index x i) c.upper);
}
  where
    above : (i : ℕ) → i < length p.jobs → slice_index child.lower i ≤ slice_index starts i
    above i l = elim (member_decided (number i) gone) [
      | inl goes ↦
          let later : c.end ≤ slice_index starts (place (number i)) = each-member (λ job. c.end ≤ slice_index starts (place job)) gone (number i) (off c.end c.first) goes in
          let e : place (number i) ≡ i = omega arith in
          omega (arith, c.raised i l goes, lies.above i l, ap (slice_index starts) e)
      | inr stays ↦ omega (arith, c.same i l stays, lies.above i l)
    ]

-- so they lie in some child
pub loses_nothing : BranchingLosesNothing
loses_nothing p capacities window early t active starts is_early conflict answer =
    let b = branching p capacities early t active starts conflict.set (is_early.least starts answer.lies.above answer.fits.precedence) (conflict_active p capacities early t active conflict) answer.fits.within in
    record {
      gone = b.gone;
      kept = b.kept;
      splits = b.splits;
      some_stay = b.some_stay;
      minimal = b.minimal;
      lies = λ child c. lies_in_child p early b.gone b.kept starts window child c b.off answer.lies;
    }

-- so the children cover the window
pub cover : ChildrenCover
cover p capacities window early t active children is_early conflict has starts answer =
    let b = loses_nothing p capacities window early t active starts is_early conflict answer in
    let child = has b.gone b.kept b.splits b.some_stay b.minimal in
    (child.0, child.1, b.lies child.0 child.2)

-- a child lies inside its window
pub child_inside : ChildIsInside
child_inside p early window gone kept child c = record {
  lower = λ i l. elim (member_decided (number i) gone) [
    | inl goes ↦ omega (arith, c.raised i l goes)
    | inr stays ↦ omega (arith, c.same i l stays)
  ];
  upper = λ i l. omega (arith, ap (λ (x : List ℕ). slice_index x i) c.upper);
}
