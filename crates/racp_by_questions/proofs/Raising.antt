-- What may be told of floors that are raised to known ones.
use Rattle.std.proofs.Common.{◌≡◌, ◌∙◌, ℕ, ◌+◌, ◌<◌, ◌≤◌, max, List, length, slice_index, set, inl, inr, Option, Some, None, IfSome, ap, sym, subst, arith}
use Rattle.std.proofs.lemmas.List.{length-set}
use Rattle.std.specs.Prelude.{MatchOption}
use Rattle.racp_model.specs.Project.{Project}
use Rattle.racp_model.specs.Terms.{Terms, AreTermsOf}
use Rattle.racp_model.proofs.lemmas.Lists.{at_set}
use Rattle.racp_found.specs.Told.{AreFloorsOfEnough}
use Rattle.racp_bounds.specs.Sharp.{pair_count}
use Rattle.racp_by_questions.specs.Enough.{AreGreater}
use Rattle.racp_by_questions.specs.Stops.{ceiling_series, IsStoppedAt}
use Rattle.racp_by_questions.proofs.lemmas.AtMost.{at_most-not_after}

module _ {X : Type 0} (list : X → List ℕ) (p : Project) (terms : Terms) (floors raised : List ℕ) where
  -- raised floors are floors
  pub raised-floors : (known : Option X) → MatchOption known (raised ≡ floors) (λ x. AreGreater floors (list x) raised) → IfSome known (λ x. AreFloorsOfEnough p terms (list x)) →
      AreFloorsOfEnough p terms floors → AreFloorsOfEnough p terms raised
  raised-floors (Some x) greater is are = record {
    places = greater.places ∙ are.places;
    below = λ enough e k l. omega (arith, greater.each k (omega (arith, l, are.places)), are.below enough e k l, is.below enough e k l);
  }
  raised-floors None same is are = subst (λ (f : List ℕ). AreFloorsOfEnough p terms f) (sym same) are

  -- and are at or above those that were raised
  pub raised-above : (known : Option X) → MatchOption known (raised ≡ floors) (λ x. AreGreater floors (list x) raised) → length floors ≡ p.resources →
      (k : ℕ) → k < p.resources → slice_index floors k ≤ slice_index raised k
  raised-above (Some x) greater places k l = omega (arith, greater.each k (omega (arith, l, places)))
  raised-above None same places k l = subst (λ (f : List ℕ). slice_index floors k ≤ slice_index f k) (sym same) (omega arith)

-- where planning stops before the series of the box, floors of all that is enough are told in place of lower ones
pub raised-stop : (p : Project) (terms : Terms) (answered : ℕ) (told : Option (List ℕ)) (floors raised : List ℕ) → AreTermsOf p terms → AreFloorsOfEnough p terms raised →
    ((k : ℕ) → k < p.resources → slice_index floors k ≤ slice_index raised k) → answered < ceiling_series terms + p.resources + pair_count p.resources →
    IsStoppedAt p terms answered told floors → IsStoppedAt p terms answered told raised
raised-stop p terms answered told floors raised t are above left is = record {
  none = record {
    places = are.places;
    none = λ enough e before. at_most-not_after p terms t raised enough (λ k l. are.below enough e k l) are.places e.places before;
  };
  floors = record {
    root = is.floors.root;
    floors = is.floors.floors;
    is_root = is.floors.is_root;
    are_floors = is.floors.are_floors;
    above = λ k l. omega (arith, is.floors.above k l, above k l);
  };
  sharpened = λ k l asked. let some = is.sharpened k l asked in (some.0, some.1, omega (arith, some.2, above k l));
  in_box = λ e. absurd (omega (arith, e, left));
  after_box = λ more. absurd (omega (arith, more, left));
}

-- units of which those before place k are raised
pub record IsRaising (one other units : List ℕ) (k : ℕ) : Type 0 where
  pub places : length units ≡ length one
  pub before : (j : ℕ) → j < k → j < length one → slice_index units j ≡ max (slice_index one j) (slice_index other j)
  pub behind : (j : ℕ) → k ≤ j → j < length one → slice_index units j ≡ slice_index one j

-- so one more is
pub raising-next : (one other units : List ℕ) (k least : ℕ) → IsRaising one other units k → k < length units → least ≡ max (slice_index units k) (slice_index other k) → IsRaising one other (set units k least) (k + 1)
raising-next one other units k least are l is = record {
  places = length-set units k least ∙ are.places;
  before = λ j low m. elim (at_set units k least j l) [
    | inl here ↦ omega (arith, here.1, is, are.behind k (omega arith) (omega (arith, l, are.places)), ap (slice_index one) here.0, ap (slice_index other) here.0)
    | inr other' ↦ omega (arith, other'.1, are.before j (omega (arith, low, other'.0)) m)
  ];
  behind = λ j high m. elim (at_set units k least j l) [
    | inl here ↦ absurd (omega (arith, here.0, high))
    | inr other' ↦ omega (arith, other'.1, are.behind j (omega (arith, high)) m)
  ];
}

-- and all are
pub raising-all : (one other units : List ℕ) (k : ℕ) → IsRaising one other units k → length units ≤ k → AreGreater one other units
raising-all one other units k are past = record { places = are.places; each = λ j l. are.before j (omega (arith, l, past, are.places)) l }
