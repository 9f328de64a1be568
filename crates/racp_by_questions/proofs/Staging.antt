-- From stage to stage of planning.
use Rattle.std.proofs.Common.{◌≡◌, ◌∙◌, ℕ, ◌+◌, ◌<◌, ◌≤◌, List, length, slice_index, set, inl, inr, Option, Some, None, IfSome, is_some, Bool, true, false, if◌then◌else◌, refl, sym, ap, subst, arith}
use Rattle.std.proofs.lemmas.Bool.{cases_lt}
use Rattle.std.proofs.lemmas.List.{length-set, set-get_or}
use Rattle.racp_model.specs.Project.{Project}
use Rattle.racp_model.specs.Schedule.{ArePeaks}
use Rattle.racp_model.specs.Terms.{Terms, AreTermsOf, release_of, due_of, IsLexBefore, IsBefore}
use Rattle.racp_model.specs.Plan.{IsLeast, IsEnough, IsPlan}
use Rattle.racp_model.specs.Window.{Bounds, Answers, IsYes, IsRootWindow}
use Rattle.racp_model.specs.declared.question.Question.{Question}
use Rattle.racp_model.proofs.lemmas.Lists.{at_set}
use Rattle.racp_cpm.proofs.lemmas.Rooted.{fits-answers, least-fit}
use Rattle.racp_prices.specs.Units.{AreMostUnits}
use Rattle.racp_questions.specs.declared.asker.AskStop.{AskStop}
use Rattle.racp_questions.specs.declared.asker.AskStop.TheVariants.{Stopped as AskStopped, Memory as AskMemory, NoThread as AskNoThread}
use Rattle.racp_questions.specs.declared.asker.First.{First}
use Rattle.racp_questions.specs.declared.asker.First.TheVariants.{Yes}
use Rattle.racp_questions.specs.FirstYes.{IsReached, IsStop, MayGiveUp, IsFirst, AreNoBefore}
use Rattle.racp_candidates.specs.Box.{AreBounds, AreBoxQuestions}
use Rattle.racp_bounds.specs.Floors.{AreFloors}
use Rattle.racp_bounds.specs.Sharp.{IsSharpened, AreSharpened, AreSharpenedBefore, pair_count, IsUnsharpened}
use Rattle.racp_bounds.specs.declared.sharp.Sharp.{Sharp}
use Rattle.racp_by_questions.specs.Stops.{ceiling_series, AreAboveFloors, IsNotAfterEnough, IsStoppedAt, IsPlanStop, given_up, stopped_at}
use Rattle.racp_by_questions.specs.declared.stop.PlanStop.{PlanStop}
use Rattle.racp_by_questions.specs.declared.stop.PlanStop.TheVariants.{Stopped, Memory, NoThread}
use Rattle.racp_by_questions.specs.Stages.{AreFloorsAndRoofs, AreSharpFloorsAndRoofs, IsStoppedInBox}
use Rattle.racp_found.specs.Told.{AreFloorsOfEnough}
use Rattle.racp_by_questions.proofs.Raising.{raised-stop}
use Rattle.racp_by_questions.proofs.Choosing.{first_reached, reached_first, yes_enough, enough_above, some_yes, peaks_least, reached_box, reached_boxed}
use Rattle.racp_bounds.proofs.lemmas.Sharpened.{all_sharpened}

-- an option that is not there is none
pub none_there : {X : Type 0} (o : Option X) → is_some o ≡ false → o ≡ None
none_there None e = refl
none_there (Some x) e = absurd (cc e)

-- without ceilings no series is asked for them, and with ceilings one is
pub no_ceilings : (terms : Terms) → is_some terms.ceilings ≡ false → ceiling_series terms ≡ 0
no_ceilings terms none = ap (λ (b : Bool). if b then 1 else 0) none

pub some_ceilings : (terms : Terms) → is_some terms.ceilings ≡ true → ceiling_series terms ≡ 1
some_ceilings terms some = ap (λ (b : Bool). if b then 1 else 0) some

-- an asker gives up: planning ends, with capacities that may be told
pub ends_with : (IsTold : List ℕ → Type 0) (may_stop may_want_thread : Type 0) (stop : AskStop) (not_before : List ℕ) → MayGiveUp may_stop may_want_thread stop → IsTold not_before →
    IsPlanStop IsTold may_stop may_want_thread (given_up stop not_before)
ends_with IsTold may_stop may_want_thread (AskStopped reached) not_before may told = (may, told)
ends_with IsTold may_stop may_want_thread AskMemory not_before may told = tt
ends_with IsTold may_stop may_want_thread AskNoThread not_before may told = may

-- it gives up while some series is not answered
ends_within : (IsTold : List ℕ → Type 0) (may_stop may_want_thread left : Type 0) (stop : AskStop) (not_before : List ℕ) → MayGiveUp (may_stop × left) may_want_thread stop →
    (left → IsTold not_before) → IsPlanStop IsTold may_stop may_want_thread (given_up stop not_before)
ends_within IsTold may_stop may_want_thread left (AskStopped reached) not_before may told = (may.0, told may.1)
ends_within IsTold may_stop may_want_thread left AskMemory not_before may told = tt
ends_within IsTold may_stop may_want_thread left AskNoThread not_before may told = may

-- what may be told of one stage, where some series is not answered, is so of all planning
pub told_too : (IsTold IsToldToo : List ℕ → Type 0) (may_stop may_want_thread left : Type 0) (stop : PlanStop) → (left → (capacities : List ℕ) → IsTold capacities → IsToldToo capacities) →
    IsPlanStop IsTold (may_stop × left) may_want_thread stop → IsPlanStop IsToldToo may_stop may_want_thread stop
told_too IsTold IsToldToo may_stop may_want_thread left (Stopped not_before) so is = (is.0.0, so is.0.1 not_before is.1)
told_too IsTold IsToldToo may_stop may_want_thread left Memory so is = tt
told_too IsTold IsToldToo may_stop may_want_thread left NoThread so is = is

-- the capacities that were reached, or the floors
ends_at : (p : Project) (terms : Terms) (questions : List Question) (told : Option (List ℕ)) (may_stop may_want_thread left : Type 0) (stop : AskStop) (floors : List ℕ) →
    IsStop p questions told may_stop may_want_thread stop → left → IsNotAfterEnough p terms floors →
    ((capacities : List ℕ) → IsReached p questions (Some capacities) → IsNotAfterEnough p terms capacities × ((k : ℕ) → k < p.resources → slice_index floors k ≤ slice_index capacities k)) →
    IsPlanStop (IsStoppedInBox p terms floors told) (may_stop × left) may_want_thread (stopped_at stop floors)
ends_at p terms questions told may_stop may_want_thread left (AskStopped (Some reached)) floors (may, as_told) some none there =
    let inside = there reached as_told.1 in
    ((may, some), record { none = inside.0; above = inside.1; as_told = subst (λ (o : Option (List ℕ)). IfSome o (λ r. reached ≡ r)) (sym as_told.0) refl })
ends_at p terms questions told may_stop may_want_thread left (AskStopped None) floors (may, as_told) some none there =
    ((may, some), record { none = none; above = λ k l. omega arith; as_told = subst (λ (o : Option (List ℕ)). IfSome o (λ r. floors ≡ r)) (sym as_told.0) tt })
ends_at p terms questions told may_stop may_want_thread left AskMemory floors may some none there = tt
ends_at p terms questions told may_stop may_want_thread left AskNoThread floors may some none there = may.0

-- a sharpened floor is at most a roof that is a yes
sharpened_below : (p : Project) (root : Bounds) (floors roofs : List ℕ) (k units : ℕ) → slice_index floors k ≤ slice_index roofs k → IsYes p roofs root → IsSharpened p root floors roofs k units → units ≤ slice_index roofs k
sharpened_below p root floors roofs k units bound some is = elim (cases_lt (slice_index roofs k) units) [
  | inl less ↦ absurd (is.least (slice_index roofs k) (record { from_floor = bound; yes = subst (λ (c : List ℕ). IsYes p c root) (sym (set-get_or roofs k 0)) some }) less)
  | inr least ↦ least
]

-- so sharpened floors are at most the roofs
pub sharp_below : (p : Project) (root : Bounds) (floors roofs sharp : List ℕ) → length floors ≡ p.resources → AreBounds floors roofs → IsYes p roofs root → AreSharpened p root floors roofs sharp → AreBounds sharp roofs
sharp_below p root floors roofs sharp places bounds some are k l =
    sharpened_below p root floors roofs k (slice_index sharp k) (bounds k (omega (arith, l, places, are.places))) some (are.each k (omega (arith, l, are.places)))

module _ (p : Project) (terms : Terms) (root : Bounds) (t : AreTermsOf p terms) (h : IsRootWindow p (release_of terms) (due_of terms) root) where
  -- where planning stops at the series for the ceilings, at the first floors
  pub stopped_first : (floors roofs : List ℕ) (answered : ℕ) (told : Option (List ℕ)) → AreFloors p root terms.deadline floors → AreMostUnits p terms roofs →
      answered ≡ 0 → ceiling_series terms ≡ 1 → IsStoppedAt p terms answered told floors
  stopped_first floors roofs answered told lowest most none asked = record {
    none = reached_first p terms root floors roofs t h lowest most 0 floors (first_reached p terms root floors roofs t h lowest most);
    floors = record { root = root; floors = floors; is_root = h; are_floors = lowest; above = λ k l. omega arith };
    sharpened = λ k l more. absurd (omega (arith, more, none));
    in_box = λ e. absurd (omega (arith, e, none, asked));
    after_box = λ more. absurd (omega (arith, more, none));
  }

  -- where planning stops behind it, by the first floors and the roofs
  module _ (floors roofs : List ℕ) (ends : AreFloorsAndRoofs p terms root floors roofs) where
    -- of each sharpened floor some capacities that are enough have just as many units
    sharpened_enough : (k units : ℕ) → k < p.resources → IsSharpened p root floors roofs k units → (enough : List ℕ) × IsEnough p terms enough × (slice_index enough k ≤ units)
    sharpened_enough k units l is =
        let below : units ≤ slice_index roofs k = sharpened_below p root floors roofs k units (ends.bounds k (omega (arith, l, ends.lowest.places))) ends.yes is in
        let at = λ (q : ℕ). at_set roofs k units q (omega (arith, l, ends.most.places)) in (
          set roofs k units,
          yes_enough p terms root floors roofs t h ends.lowest ends.most (set roofs k units) (length-set roofs k units ∙ ends.most.places)
              (λ q m. elim (at q) [ inl here ↦ omega (arith, here.1, below, ap (slice_index roofs) here.0) | inr other ↦ omega (arith, other.1) ]) is.is.yes,
          elim (at k) [ inl here ↦ omega (arith, here.1) | inr other ↦ absurd (omega (arith, other.0)) ],
        )

    -- floors so far are at or above the first ones
    reached_above : (n : ℕ) (reached : List ℕ) → AreSharpenedBefore p root floors roofs n reached → (k : ℕ) → k < p.resources → slice_index floors k ≤ slice_index reached k
    reached_above n reached are k l = elim (cases_lt k n) [ inl low ↦ (are.sharpened k low l).is.from_floor | inr high ↦ omega (arith, are.first k high l) ]

    -- capacities at or above the first floors
    above_floors : (capacities : List ℕ) → ((k : ℕ) → k < p.resources → slice_index floors k ≤ slice_index capacities k) → AreAboveFloors p terms capacities
    above_floors capacities above = record { root = root; floors = floors; is_root = h; are_floors = ends.lowest; above = above }

    module _ (answered : ℕ) (told : Option (List ℕ)) (capacities : List ℕ) where
      -- before the series of the box, at floors of which some are sharpened
      pub stopped_early : (n : ℕ) → answered ≤ ceiling_series terms + n → answered < ceiling_series terms + p.resources + pair_count p.resources →
          AreSharpenedBefore p root floors roofs n capacities → IsStoppedAt p terms answered told capacities
      stopped_early n most left are = record {
        none = reached_first p terms root floors roofs t h ends.lowest ends.most n capacities are;
        floors = above_floors capacities (reached_above n capacities are);
        sharpened = λ k l asked. sharpened_enough k (slice_index capacities k) l (are.sharpened k (omega (arith, asked, most)) l);
        in_box = λ e. absurd (omega (arith, e, left));
        after_box = λ more. absurd (omega (arith, more, left));
      }

      -- in that series, at or above the sharpened floors
      pub stopped_in_box : (sharp : List ℕ) → answered ≡ ceiling_series terms + p.resources + pair_count p.resources → AreSharpened p root floors roofs sharp →
          IsStoppedInBox p terms sharp told capacities → IsStoppedAt p terms answered told capacities
      stopped_in_box sharp e are is = record {
        none = is.none;
        floors = above_floors capacities (λ k l. omega (arith, (are.each k l).is.from_floor, is.above k l));
        sharpened = λ k l asked. let some = sharpened_enough k (slice_index sharp k) l (are.each k l) in (some.0, some.1, omega (arith, some.2, is.above k l));
        in_box = λ same. is.as_told;
        after_box = λ more. absurd (omega (arith, more, e));
      }

      -- behind it, at the first capacities that are enough
      pub stopped_behind : ceiling_series terms + p.resources + pair_count p.resources < answered → IsLeast (IsBefore terms) (IsEnough p terms) capacities → IsStoppedAt p terms answered told capacities
      stopped_behind more first = record {
        none = record { places = first.is.places; none = first.least };
        floors = above_floors capacities (enough_above p terms root floors roofs t h ends.lowest ends.most capacities first.is);
        sharpened = λ k l asked. (capacities, first.is, omega arith);
        in_box = λ e. absurd (omega (arith, e, more));
        after_box = λ past. first;
      }

  -- sharpening ends early, at floors that are raised
  pub unsharpened : (floors roofs : List ℕ) (ends : AreFloorsAndRoofs p terms root floors roofs) (before answered : ℕ) (told : Option (List ℕ)) (may_stop may_want_thread : Type 0) (refusal : List ℕ × AskStop) (raised : List ℕ) →
      answered ≡ ceiling_series terms + before → IsUnsharpened p root floors roofs before may_stop may_want_thread refusal →
      AreFloorsOfEnough p terms raised → ((k : ℕ) → k < p.resources → slice_index refusal.0 k ≤ slice_index raised k) →
      IsPlanStop (IsStoppedAt p terms answered told) may_stop may_want_thread (given_up refusal.1 raised)
  unsharpened floors roofs ends before answered told may_stop may_want_thread refusal raised e are least above =
      ends_within (IsStoppedAt p terms answered told) may_stop may_want_thread (before < p.resources + pair_count p.resources) refusal.1 raised are.given_up
      (λ left. raised-stop p terms answered told refusal.0 raised t least above (omega (arith, e, left))
      (stopped_early floors roofs ends answered told refusal.0 before (omega (arith, e)) (omega (arith, e, left)) are.reached))

  -- the least starts of the first capacities are the plan's
  pub planned : (capacities starts : List ℕ) → IsLeast (IsBefore terms) (IsEnough p terms) capacities → IsLeast IsLexBefore (Answers p capacities root) starts → IsPlan p terms capacities starts
  planned capacities starts first least = record { vector = first; schedule = least-fit p (release_of terms) (due_of terms) root capacities starts h least }

  -- capacities that are enough are a yes
  pub enough_yes : (capacities : List ℕ) → IsEnough p terms capacities → IsYes p capacities root
  enough_yes capacities e = (e.admits.0, fits-answers p (release_of terms) (due_of terms) root capacities e.admits.0 h e.admits.1)

  module _ (sharp : Sharp) (roofs : List ℕ) (ends : AreSharpFloorsAndRoofs p terms root sharp roofs) (questions : List Question) (box : AreBoxQuestions terms sharp.floors roofs sharp.pairs.items root questions) where
    -- some question of the box is a yes
    pub box_yes : AreNoBefore p questions (length questions) → ⊥
    box_yes none =
        some_yes p terms root ends.first roofs t h ends.ends.lowest ends.ends.most sharp.floors sharp.pairs.items questions ends.sharp_are.sharpened ends.sharp_are.refuted box roofs
        (yes_enough p terms root ends.first roofs t h ends.ends.lowest ends.ends.most roofs ends.ends.most.places (λ k l. omega arith) ends.ends.yes) none

    -- the starts of the first yes have the first capacities that are enough as their peaks
    pub box_least : (answer : First) (index : ℕ) (starts peaks : List ℕ) → IsFirst p questions answer → answer ≡ Yes index starts → ArePeaks p starts peaks → IsLeast (IsBefore terms) (IsEnough p terms) peaks
    box_least answer index starts peaks first is are =
        let told : IsFirst p questions (Yes index starts) = subst (λ (a : First). IsFirst p questions a) is first in
        peaks_least p terms root ends.first roofs t h ends.ends.lowest ends.ends.most sharp.floors sharp.pairs.items questions ends.sharp_are.sharpened ends.sharp_are.refuted box index starts peaks told.0 told.1 are

    -- asking ends early
    pub box_stopped : (told : Option (List ℕ)) (may_stop may_want_thread left : Type 0) (stop : AskStop) → IsStop p questions told may_stop may_want_thread stop → left →
        IsPlanStop (IsStoppedInBox p terms sharp.floors told) (may_stop × left) may_want_thread (stopped_at stop sharp.floors)
    box_stopped told may_stop may_want_thread left stop given some =
        ends_at p terms questions told may_stop may_want_thread left stop sharp.floors given some
        (reached_first p terms root ends.first roofs t h ends.ends.lowest ends.ends.most p.resources sharp.floors (all_sharpened p root ends.first roofs sharp.floors ends.sharp_are.sharpened))
        (λ capacities reached. (
          reached_box p terms root ends.first roofs t h ends.ends.lowest ends.ends.most sharp.floors sharp.pairs.items questions ends.sharp_are.sharpened ends.sharp_are.refuted box capacities reached,
          reached_boxed p terms root ends.first roofs t h ends.ends.lowest ends.ends.most sharp.floors sharp.pairs.items questions ends.sharp_are.sharpened ends.sharp_are.refuted box capacities reached,
        ))
