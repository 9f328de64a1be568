-- Due times lowered to late starts, by one sweep over the pairs from the last.
use Rattle.std.proofs.Common.{◌≡◌, ◌≢◌, ℕ, ◌+◌, ◌<◌, ◌≤◌, inl, inr, List, length, slice_index, slice_index_or, set, arith, ap, sym, ◌∙◌, subst, true, false, Bool, MatchBool, get_or-set_other, get_or-set_same}
use Rattle.std.proofs.lemmas.List.{length-set}
use Rattle.std.proofs.lemmas.Bool.{cases_lt}
use Rattle.racp_model.specs.Project.{Project, Precedes, duration}
use Rattle.racp_model.specs.Topology.{IsTopological}
use Rattle.racp_model.specs.Schedule.{KeepsPrecedence}
use Rattle.racp_cpm.specs.Lowered.{AreGreatestWithin, IsLowered, IsAtMost, TakesDurations}
use Rattle.racp_model.specs.Path.{IsLate, IsTooTight}
use Rattle.racp_model.proofs.lemmas.Lists.{at_set}
use Rattle.racp_model.proofs.lemmas.Arcs.{KeepsPair, each_by_arcs}

-- what holds from suc k on, and at k, holds from k on
pub above_more : (P : ℕ → Type 0) (k : ℕ) → ((q : ℕ) → k + 1 ≤ q → P q) → P k → (q : ℕ) → k ≤ q → P q
above_more P k above here q l = elim (cases_lt k q) [
  | inl more ↦ above q (omega arith)
  | inr same ↦ let e : k ≡ q = omega arith in subst P e here
]

-- the greatest starts within the upper bounds that keep the pairs from the place k on
pub record IsLoweredFrom (p : Project) (pairs : List (ℕ × ℕ)) (k : ℕ) (upper starts : List ℕ) : Type 0 where
  pub places : length starts ≡ length upper
  pub below : IsAtMost p upper starts
  pub kept : (q : ℕ) → k ≤ q → q < length pairs → KeepsPair p starts (slice_index_or pairs q (0, 0))
  pub greatest : (others : List ℕ) → IsAtMost p upper others → KeepsPrecedence p others → (i : ℕ) → i < length p.jobs → slice_index others i ≤ slice_index starts i

-- a pair that is kept already
pub lowered-kept : (p : Project) (pairs : List (ℕ × ℕ)) (upper starts : List ℕ) (k i j : ℕ)
    → IsLoweredFrom p pairs (k + 1) upper starts → slice_index_or pairs k (0, 0) ≡ (i, j) → slice_index starts i + duration p i ≤ slice_index starts j → IsLoweredFrom p pairs k upper starts
lowered-kept p pairs upper starts k i j h at here = record {
  places = h.places;
  below = h.below;
  kept = above_more (λ q. q < length pairs → KeepsPair p starts (slice_index_or pairs q (0, 0))) k h.kept
      (λ _. subst (KeepsPair p starts) (sym at) here);
  greatest = h.greatest;
}

-- a write of a lesser value lowers
pub set_lowers : (starts : List ℕ) (j v i : ℕ) → j < length starts → v < slice_index starts j → slice_index (set starts j v) i ≤ slice_index starts i
set_lowers starts j v i l less = elim (at_set starts j v i l) [
  | inl here ↦ omega (arith, here.1, ap (slice_index starts) here.0)
  | inr there ↦ omega (arith, there.1)
]

-- a start that is lowered
pub lowered-set : (p : Project) (pairs : List (ℕ × ℕ)) (upper starts : List ℕ) (k i j v : ℕ) → IsTopological p pairs → length upper ≡ length p.jobs → k < length pairs
    → IsLoweredFrom p pairs (k + 1) upper starts → slice_index_or pairs k (0, 0) ≡ (i, j)
    → v + duration p i ≡ slice_index starts j → v < slice_index starts i → IsLoweredFrom p pairs k upper (set starts i v)
lowered-set p pairs upper starts k i j v ordered places l h at room less =
    let apart : j ≢ i = λ e. ordered.forward k k (omega arith) l (ap (λ (a : ℕ × ℕ). a.0) at ∙ sym e ∙ ap (λ (a : ℕ × ℕ). a.1) (sym at)) in
    let from_in : i < length p.jobs = let named : (slice_index_or pairs k (0, 0)).0 < length p.jobs = (ordered.named k l).0 in omega (arith, ap (λ (a : ℕ × ℕ). a.0) at) in
    let to_in : j < length p.jobs = let named : (slice_index_or pairs k (0, 0)).1 < length p.jobs = (ordered.named k l).1 in omega (arith, ap (λ (a : ℕ × ℕ). a.1) at) in
    let in' : i < length starts = omega (arith, h.places) in
    let order : Precedes p i j = let P : ℕ × ℕ → Type 0 = λ a. Precedes p a.0 a.1 in subst P at (ordered.sound k l) in
    let same : slice_index (set starts i v) i ≡ v = get_or-set_same starts i v 0 in' in
    let target : slice_index (set starts i v) j ≡ slice_index starts j = get_or-set_other starts i j v 0 apart in
    record {
      places = length-set starts i v ∙ h.places;
      below = λ m o. omega (arith, h.below m o, set_lowers starts i v m in' less);
      kept = above_more (λ q. q < length pairs → KeepsPair p (set starts i v) (slice_index_or pairs q (0, 0))) k
          (λ q o m.
          let after : slice_index (set starts i v) (slice_index_or pairs q (0, 0)).1 ≡ slice_index starts (slice_index_or pairs q (0, 0)).1 =
          get_or-set_other starts i (slice_index_or pairs q (0, 0)).1 v 0 (λ e. ordered.forward k q (omega arith) m (ap (λ (a : ℕ × ℕ). a.0) at ∙ sym e)) in
          omega (arith, h.kept q o m, set_lowers starts i v (slice_index_or pairs q (0, 0)).0 in' less))
          (λ _. subst (KeepsPair p (set starts i v)) (sym at) (omega arith));
      greatest = λ others under keeps m o. elim (at_set starts i v m in') [
        | inl here ↦ omega (arith, here.1, keeps i j order, h.greatest others under keeps j to_in, ap (slice_index others) here.0)
        | inr there ↦ omega (arith, there.1, h.greatest others under keeps m o)
      ];
    }

-- no room: nothing keeps precedence below the upper bounds
pub lowered-none : (p : Project) (pairs : List (ℕ × ℕ)) (upper starts : List ℕ) (k i j : ℕ) → IsTopological p pairs → k < length pairs
    → IsLoweredFrom p pairs (k + 1) upper starts → slice_index_or pairs k (0, 0) ≡ (i, j) → slice_index starts j < duration p i
    → (others : List ℕ) → IsAtMost p upper others → KeepsPrecedence p others → ⊥
lowered-none p pairs upper starts k i j ordered l h at less others under keeps =
    let to_in : j < length p.jobs = let named : (slice_index_or pairs k (0, 0)).1 < length p.jobs = (ordered.named k l).1 in omega (arith, ap (λ (a : ℕ × ℕ). a.1) at) in
    let order : Precedes p i j = let P : ℕ × ℕ → Type 0 = λ a. Precedes p a.0 a.1 in subst P at (ordered.sound k l) in
    omega (arith, keeps i j order, h.greatest others under keeps j to_in)

-- after all pairs they keep precedence
pub lowered_all : (p : Project) (pairs : List (ℕ × ℕ)) (upper starts : List ℕ) → IsTopological p pairs → IsLoweredFrom p pairs 0 upper starts → AreGreatestWithin p upper starts
lowered_all p pairs upper starts ordered h = record {
  places = h.places;
  below = h.below;
  precedence = each_by_arcs p pairs (λ i j. slice_index starts i + duration p i ≤ slice_index starts j) ordered (λ q l. h.kept q (omega arith) l);
  greatest = h.greatest;
}

-- lowered from the due times less the durations, they are the late starts
pub late_is : (p : Project) (due upper late : List ℕ) → length due ≡ length p.jobs → TakesDurations p due upper true → AreGreatestWithin p upper late → IsLate p (slice_index due) late
late_is p due upper late places t h = record {
  places = h.places ∙ t.0 ∙ places;
  ends = λ i l. omega (arith, h.below i l, t.1 i l);
  precedence = h.precedence;
  greatest = λ starts ends keeps. h.greatest starts (λ i l. omega (arith, ends i l, t.1 i l)) keeps;
}

-- a due time below a duration
pub too_short : (p : Project) (due upper : List ℕ) → TakesDurations p due upper false → IsTooTight p (slice_index due)
too_short p due upper t starts ends keeps = omega (arith, ends t.0 t.1, t.2)

-- where the starts cannot be lowered
pub too_tight : (p : Project) (due upper : List ℕ) → TakesDurations p due upper true → ((others : List ℕ) → IsAtMost p upper others → KeepsPrecedence p others → ⊥) → IsTooTight p (slice_index due)
too_tight p due upper t none starts ends keeps = none starts (λ i l. omega (arith, ends i l, t.1 i l)) keeps

-- what both steps together answer
pub settled : (p : Project) (due upper after : List ℕ) (b : Bool) → length due ≡ length p.jobs
    → TakesDurations p due upper true → IsLowered p upper after b → MatchBool b (IsLate p (slice_index due) after) (IsTooTight p (slice_index due))
settled p due upper after true places t h = late_is p due upper after places t h
settled p due upper after false places t h = too_tight p due upper t h
