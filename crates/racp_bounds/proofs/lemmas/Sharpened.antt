-- Vectors that admit and are within the roofs are at or above sharpened floors, and in the box of these and the refuted pairs.
use Rattle.std.proofs.Common.{◌≡◌, ◌⊎◌, ℕ, ◌<◌, ◌≤◌, inl, inr, List, length, slice_index, set, arith, sym, ap, ◌∙◌}
use Rattle.std.proofs.lemmas.Bool.{cases_lt}
use Rattle.std.proofs.lemmas.List.{length-set}
use Rattle.racp_model.specs.Project.{Project}
use Rattle.racp_model.specs.Schedule.{FitsInTime, Admits}
use Rattle.racp_model.specs.Window.{Bounds, LiesIn, IsYes, IsRootWindow}
use Rattle.racp_model.specs.Laws.{AboveAdmits}
use Rattle.racp_model.proofs.lemmas.Lists.{at_set}
use Rattle.racp_cpm.proofs.lemmas.Roots.{root_in_time}
use Rattle.racp_bounds.specs.Floors.{AreFloors}
use Rattle.racp_bounds.specs.Sharp.{IsEnoughOf, AreSharpened, IsRefutedPair, AreSharpenedBefore}
use Rattle.racp_bounds.specs.Laws.{AdmittingIsAboveSharpened, AdmittingIsInBox}
use Rattle.racp_bounds.proofs.lemmas.Above.{admitting_above}

-- a vector at or above one that admits admits
pub above_admits : AboveAdmits
above_admits p release due a b above admits = (
  admits.0,
  record {
    places = admits.1.places;
    in_time = admits.1.in_time;
    fits = record { precedence = admits.1.fits.precedence; within = λ k t l. omega (arith, admits.1.fits.within k t l, above k l) };
  },
)

-- what admits is a yes of the root window
pub admitting_yes : (p : Project) (release due : ℕ → ℕ) (root : Bounds) (capacities : List ℕ) → IsRootWindow p release due root → Admits p release due capacities → IsYes p capacities root
admitting_yes p release due root capacities h admits =
    let fits : FitsInTime p release due capacities admits.0 = admits.1 in
    let lies : LiesIn p root admits.0 = (root_in_time p release due root admits.0 h fits.places fits.fits.precedence).1 fits.in_time in
    (admits.0, record { lies = lies; fits = fits.fits })

-- a vector within the roofs is within those that have its units, or more, at one place
pub within_set : (vector roofs : List ℕ) (k units q n : ℕ) → length roofs ≡ n → ((j : ℕ) → j < n → slice_index vector j ≤ slice_index roofs j) →
    k < n → slice_index vector k ≤ units → q < n → slice_index vector q ≤ slice_index (set roofs k units) q
within_set vector roofs k units q n places within l enough m = elim (at_set roofs k units q (omega (arith, places, l))) [
  | inl here ↦ omega (arith, here.1, enough, ap (slice_index vector) here.0)
  | inr other ↦ omega (arith, other.1, within q m)
]

-- its units of a resource, with the roofs elsewhere, are enough
pub admitting_enough : (p : Project) (release due : ℕ → ℕ) (root : Bounds) (deadline : ℕ) (floors roofs vector : List ℕ) →
    IsRootWindow p release due root → ((i : ℕ) → i < length p.jobs → due i ≤ deadline) → AreFloors p root deadline floors →
    length roofs ≡ p.resources → ((k : ℕ) → k < p.resources → slice_index vector k ≤ slice_index roofs k) → Admits p release due vector →
    (k : ℕ) → k < p.resources → IsEnoughOf p root floors roofs k (slice_index vector k)
admitting_enough p release due root deadline floors roofs vector h by floors_are places within admits k l =
    let units = slice_index vector k in
    record {
      from_floor = admitting_above p release due root deadline floors vector h by floors_are admits k l;
      yes = admitting_yes p release due root (set roofs k units) h
          (above_admits p release due vector (set roofs k units) (λ q m. within_set vector roofs k units q p.resources places within l (omega arith) m) admits);
    }

-- so it is at or above floors of which some are sharpened
pub admitting_above_sharpened : AdmittingIsAboveSharpened
admitting_above_sharpened p release due root deadline n floors roofs reached vector h by floors_are places are within admits k l = elim (cases_lt k n) [
  | inl low ↦ elim (cases_lt (slice_index vector k) (slice_index reached k)) [
    | inl less ↦
        absurd ((are.sharpened k low l).least (slice_index vector k) (admitting_enough p release due root deadline floors roofs vector h by floors_are places within admits k l) less)
    | inr least ↦ least
  ]
  | inr high ↦ omega (arith, are.first k high l, admitting_above p release due root deadline floors vector h by floors_are admits k l)
]

-- where each floor is sharpened, those before the number of resources are
pub all_sharpened : (p : Project) (root : Bounds) (floors roofs sharp : List ℕ) → AreSharpened p root floors roofs sharp → AreSharpenedBefore p root floors roofs p.resources sharp
all_sharpened p root floors roofs sharp are = record {
  places = are.places;
  sharpened = λ k low l. are.each k l;
  first = λ k high l. absurd (omega (arith, high, l));
}

-- of a refuted pair it is above one floor, for else the roofs with the two floors would admit
pub above_one : (p : Project) (release due : ℕ → ℕ) (root : Bounds) (roofs sharp vector : List ℕ) (k l : ℕ) → IsRootWindow p release due root →
    length roofs ≡ p.resources → ((j : ℕ) → j < p.resources → slice_index vector j ≤ slice_index roofs j) → Admits p release due vector →
    k < l → l < p.resources → IsRefutedPair p root sharp roofs k l →
    (slice_index sharp k < slice_index vector k) ⊎ (slice_index sharp l < slice_index vector l)
above_one p release due root roofs sharp vector k l h places within admits less last refuted = elim (cases_lt (slice_index sharp k) (slice_index vector k)) [
  | inl above ↦ inl above
  | inr below ↦ elim (cases_lt (slice_index sharp l) (slice_index vector l)) [
    | inl above ↦ inr above
    | inr under ↦
        let first = set roofs k (slice_index sharp k) in
        let both = set first l (slice_index sharp l) in
        let length_is : length first ≡ p.resources = length-set roofs k (slice_index sharp k) ∙ places in
        let in_first : (q : ℕ) → q < p.resources → slice_index vector q ≤ slice_index first q =
        λ q m. within_set vector roofs k (slice_index sharp k) q p.resources places within (omega (arith, less, last)) below m in
        let in_both : (q : ℕ) → q < p.resources → slice_index vector q ≤ slice_index both q =
        λ q m. within_set vector first l (slice_index sharp l) q p.resources length_is in_first last under m in
        let yes : IsYes p both root = admitting_yes p release due root both h (above_admits p release due vector both in_both admits) in
        absurd (refuted yes.0 yes.1)
  ]
]

-- so it is in the box
pub admitting_in_box : AdmittingIsInBox
admitting_in_box p release due root deadline floors roofs sharp pairs vector h by floors_are places are refuted length_is within admits = record {
  between = record {
    places = length_is ∙ sym are.places;
    above = λ k l. admitting_above_sharpened p release due root deadline p.resources floors roofs sharp vector h by floors_are places
        (all_sharpened p root floors roofs sharp are) within admits k (omega (arith, l, are.places));
    below = λ k l. within k (omega (arith, l, are.places));
  };
  above_pairs = λ k l there.
      let m = (refuted.members k l).0 there in
      above_one p release due root roofs sharp vector k l h places within admits m.0 m.1 m.2;
}
