-- No schedule uses more than the roofs, so a vector that is cut to them fits the same schedules, and is enough where it was. It does
-- not stand later.
use Rattle.std.proofs.Common.{◌≡◌, ℕ, ◌-◌, ◌*◌, ◌<◌, ◌≤◌, min, List, length, slice_index, map, inl, inr, Option, Some, None, IfSome, arith, refl, sym, subst}
use Rattle.std.specs.List.{range_with_len}
use Rattle.std.proofs.Math.Nat.{mul-le-mul_left}
use Rattle.std.proofs.lemmas.List.{length-map}
use Rattle.std.proofs.lemmas.List.FromFn.{get_or-map-range_with_len, length-range_with_len}
use Rattle.racp_model.specs.Project.{Project}
use Rattle.racp_model.specs.Schedule.{roof}
use Rattle.racp_model.specs.Terms.{Terms, AreTermsOf, release_of, due_of, cost, IsBefore}
use Rattle.racp_model.specs.Plan.{IsEnough}
use Rattle.racp_model.specs.Laws.{IsCutToRoofs, CutFitsTheSame, CutAdmits}
use Rattle.racp_model.proofs.lemmas.Sums.{sum_below-mono}
use Rattle.racp_model.proofs.lemmas.Usage.{usage-roof}
use Rattle.racp_model.proofs.lemmas.Orders.{HasFirstPlace, first_from_lex, vectors_ordered}
use Rattle.racp_model.proofs.lemmas.Costs.{before_cases, before_trans}

-- a vector that is cut to the roofs fits the same schedules
pub cut_fits : CutFitsTheSame
cut_fits p whole other starts h = (
  λ f. record { precedence = f.precedence; within = λ k t l. omega (arith, f.within k t l, usage-roof p starts k t, h k l) },
  λ f. record { precedence = f.precedence; within = λ k t l. omega (arith, f.within k t l, h k l) },
)

-- so it admits where the whole vector did
pub cut_admitting : CutAdmits
cut_admitting p release due whole other h a = (a.0, record { places = a.1.places; in_time = a.1.in_time; fits = (cut_fits p whole other a.0 h).0 a.1.fits })

-- a vector cut to the roofs
pub cut : Project → List ℕ → List ℕ
cut p whole = map (λ k. min (slice_index whole k) (roof p k)) (range_with_len 0 p.resources)

-- what it is at a place
pub cut-at : (p : Project) (whole : List ℕ) → IsCutToRoofs p whole (cut p whole)
unfolding cut
cut-at p whole k l = get_or-map-range_with_len (λ k. min (slice_index whole k) (roof p k)) 0 p.resources k k 0 l (omega arith)

-- it has a place for each resource
pub cut_places : (p : Project) (whole : List ℕ) → length (cut p whole) ≡ p.resources
unfolding cut
cut_places p whole = rw (length-map, length-range_with_len) refl

-- it costs no more
pub cut-cost : (p : Project) (terms : Terms) (whole : List ℕ) → AreTermsOf p terms → cost terms (cut p whole) ≤ cost terms whole
cut-cost p terms whole t =
    sum_below-mono (length terms.prices) (λ k. slice_index terms.prices k * (slice_index (cut p whole) k - slice_index terms.owned k)) (λ k. slice_index terms.prices k * (slice_index whole k - slice_index terms.owned k))
    (λ k l.
    let less : slice_index (cut p whole) k - slice_index terms.owned k ≤ slice_index whole k - slice_index terms.owned k = omega (arith, cut-at p whole k (omega (arith, l, t.price_places))) in
    mul-le-mul_left (slice_index terms.prices k) less)

-- so the whole vector does not stand before it
pub cut-no_later : (p : Project) (terms : Terms) (whole : List ℕ) → AreTermsOf p terms → length whole ≡ p.resources → IsBefore terms whole (cut p whole) → ⊥
cut-no_later p terms whole t places before = elim (before_cases terms whole (cut p whole) before) [
  | inl less ↦ omega (arith, less, cut-cost p terms whole t)
  | inr tie ↦
      let k : HasFirstPlace whole (cut p whole) = first_from_lex whole (cut p whole) (omega (arith, places, cut_places p whole)) tie.1 in
      omega (arith, k.3, cut-at p whole k.0 (omega (arith, k.1, places)))
]

-- so where the whole vector stands before another, it does too
pub cut_before : (p : Project) (terms : Terms) (whole other : List ℕ) → AreTermsOf p terms → length whole ≡ p.resources → IsBefore terms whole other → IsBefore terms (cut p whole) other
cut_before p terms whole other t places before = elim (vectors_ordered terms (cut p whole) whole) [
  | inl less ↦ before_trans terms (cut p whole) whole other less before
  | inr rest ↦ elim rest [
    | inl same ↦ subst (λ (v : List ℕ). IsBefore terms v other) (sym same) before
    | inr more ↦ absurd (cut-no_later p terms whole t places more)
  ]
]

-- fewer units are within the ceilings too
pub fewer-within : (ceilings : Option (List ℕ)) (m n : ℕ) (low high : List ℕ) → m ≤ n → ((k : ℕ) → k < m → slice_index low k ≤ slice_index high k) →
    IfSome ceilings (λ most. (k : ℕ) → k < n → slice_index high k ≤ slice_index most k) → IfSome ceilings (λ most. (k : ℕ) → k < m → slice_index low k ≤ slice_index most k)
fewer-within None m n low high small less h = tt
fewer-within (Some most) m n low high small less h = λ k l. omega (arith, less k l, h k (omega (arith, l, small)))

-- so where the whole vector is enough, it is too
pub cut-enough : (p : Project) (terms : Terms) (whole : List ℕ) → IsEnough p terms whole → IsEnough p terms (cut p whole)
cut-enough p terms whole e = record {
  places = cut_places p whole;
  ceilings = fewer-within terms.ceilings (length (cut p whole)) (length whole) (cut p whole) whole (omega (arith, cut_places p whole, e.places))
      (λ k l. omega (arith, cut-at p whole k (omega (arith, l, cut_places p whole)))) e.ceilings;
  admits = cut_admitting p (release_of terms) (due_of terms) whole (cut p whole) (cut-at p whole) e.admits;
}
