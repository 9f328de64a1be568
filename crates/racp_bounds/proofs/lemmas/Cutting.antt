-- Capacities that are enough lie in the box once they are cut to the most units, and the first of them all uncut.
use Rattle.std.proofs.Common.{◌≡◌, ◌∙◌, ℕ, ◌<◌, ◌≤◌, min, List, length, slice_index, inl, inr, Option, Some, None, IfSome, arith, subst}
use Rattle.racp_model.specs.Project.{Project}
use Rattle.racp_model.specs.Schedule.{roof}
use Rattle.racp_model.specs.Terms.{Terms, AreTermsOf, release_of, due_of, IsBefore}
use Rattle.racp_model.specs.Plan.{IsLeast, IsEnough}
use Rattle.racp_model.specs.Laws.{IsCutToRoofs}
use Rattle.racp_model.proofs.lemmas.Orders.{vectors_ordered}
use Rattle.racp_model.proofs.lemmas.Cuts.{cut, cut-at, cut_admitting, cut-no_later, cut-enough}
use Rattle.racp_prices.specs.Units.{cut_to}
use Rattle.racp_prices.proofs.lemmas.Ceilings.{cut-below}
use Rattle.racp_bounds.specs.Laws.{CutLiesInBox, EnoughCutLiesInBox, PlanIsInBox}
use Rattle.racp_bounds.proofs.lemmas.Above.{cut_roofs}
use Rattle.racp_bounds.proofs.lemmas.Sharpened.{admitting_in_box}

-- units within the ceilings are the same cut to the most units and cut to the sum of requests
pub same-cut : (ceilings : Option (List ℕ)) (units n k top : ℕ) (whole : List ℕ) → IfSome ceilings (λ most. (q : ℕ) → q < n → slice_index whole q ≤ slice_index most q) → k < n →
    units ≡ cut_to ceilings k top → min (slice_index whole k) units ≡ min (slice_index whole k) top
same-cut None units n k top whole h l e = omega (arith, e)
same-cut (Some most) units n k top whole h l e = omega (arith, e, h k l)

-- cut to the roofs, a vector that admits lies in the box
pub roofs_cut_in_box : CutLiesInBox
roofs_cut_in_box p release due root deadline floors roofs sharp pairs whole other h by lowest most are refuted places is_cut admits =
    admitting_in_box p release due root deadline floors roofs sharp pairs other h by lowest most.places are refuted places
    (λ k l. omega (arith, is_cut k l)) (cut_roofs p release due roofs whole other most is_cut admits)

-- cut to the most units, capacities that are enough lie in the box
pub enough_cut_in_box : EnoughCutLiesInBox
enough_cut_in_box p terms root floors units sharp pairs whole other h lowest most are refuted places is_cut e =
    let same : IsCutToRoofs p whole other = λ k l. is_cut k l ∙ same-cut terms.ceilings (slice_index units k) (length whole) k (roof p k) whole e.ceilings (omega (arith, l, e.places)) (most.each k l) in
    admitting_in_box p (release_of terms) (due_of terms) root terms.deadline floors units sharp pairs other h (λ i l. omega arith) lowest most.places are refuted places
    (λ k l. omega (arith, is_cut k l)) (cut_admitting p (release_of terms) (due_of terms) whole other same e.admits)

-- the first of all that are enough is the same cut to the sums of requests
pub least_is_cut : (p : Project) (terms : Terms) (vector : List ℕ) → AreTermsOf p terms → IsLeast (IsBefore terms) (IsEnough p terms) vector → cut p vector ≡ vector
least_is_cut p terms vector t least = elim (vectors_ordered terms (cut p vector) vector) [
  | inl before ↦ absurd (least.least (cut p vector) (cut-enough p terms vector least.is) before)
  | inr rest ↦ elim rest [
    | inl same ↦ same
    | inr after ↦ absurd (cut-no_later p terms vector t least.is.places after)
  ]
]

-- so it lies in the box
pub plan_in_box : PlanIsInBox
plan_in_box p terms root floors units sharp pairs vector t h lowest most are refuted least =
    let e : IsEnough p terms vector = least.is in
    let same : cut p vector ≡ vector = least_is_cut p terms vector t least in
    enough_cut_in_box p terms root floors units sharp pairs vector vector h lowest most are refuted e.places
    (λ k l.
    let within : slice_index (cut p vector) k ≤ slice_index units k = cut-below terms.ceilings (slice_index units k) (length vector) k (slice_index (cut p vector) k) (roof p k) vector e.ceilings (omega (arith, l, e.places)) (cut-at p vector k l) (most.each k l) in
    let here : slice_index vector k ≤ slice_index units k = subst (λ (v : List ℕ). slice_index v k ≤ slice_index units k) same within in
    omega (arith, here)) e
