-- A capacity vector cut to the roofs is one of the vectors that are looked at.
use Rattle.std.proofs.Common.{ℕ, ◌<◌, List, length, slice_index, inl, inr, arith, subst}
use Rattle.racp_model.specs.Project.{Project}
use Rattle.racp_model.specs.Schedule.{roof}
use Rattle.racp_model.specs.Terms.{Terms, AreTermsOf, release_of, due_of, IsBefore}
use Rattle.racp_model.specs.Plan.{IsEnough, IsLeast}
use Rattle.racp_model.specs.Window.{Bounds, IsRootWindow}
use Rattle.racp_model.proofs.lemmas.Orders.{vectors_ordered}
use Rattle.racp_model.proofs.lemmas.Costs.{before_trans}
use Rattle.racp_model.proofs.lemmas.Cuts.{cut_admitting, cut, cut-at, cut_places, cut-no_later}
use Rattle.racp_cpm.proofs.lemmas.Rooted.{fits-answers, answers-fit}
use Rattle.racp_prices.specs.Units.{AreMostUnits}
use Rattle.racp_prices.proofs.lemmas.Ceilings.{cut-below, most-within}
use Rattle.racp_reference.specs.Choices.{IsCandidate}

module _ (p : Project) (terms : Terms) (window : Bounds) (most : List ℕ) (t : AreTermsOf p terms) (root : IsRootWindow p (release_of terms) (due_of terms) window) (units : AreMostUnits p terms most) where
  -- capacities that are enough are a candidate when they are cut to the roofs
  pub enough-candidate : (whole : List ℕ) → IsEnough p terms whole → IsCandidate p window most (cut p whole)
  enough-candidate whole h =
      let admits = cut_admitting p (release_of terms) (due_of terms) whole (cut p whole) (cut-at p whole) h.admits in
      record {
        places = omega (arith, cut_places p whole, units.places);
        below = λ k l.
            let in' : k < p.resources = omega (arith, l, units.places) in
            cut-below terms.ceilings (slice_index most k) (length whole) k (slice_index (cut p whole) k) (roof p k) whole h.ceilings (omega (arith, in', h.places)) (cut-at p whole k in') (units.each k in');
        yes = (admits.0, fits-answers p (release_of terms) (due_of terms) window (cut p whole) admits.0 root admits.1);
      }

  -- and a candidate is enough
  pub candidate-enough : (capacities : List ℕ) → IsCandidate p window most capacities → IsEnough p terms capacities
  candidate-enough capacities h = record {
    places = omega (arith, h.places, units.places);
    ceilings = most-within terms.ceilings (length capacities) capacities (roof p)
        (λ k l. omega (arith, h.below k (omega (arith, l, h.places)), units.each k (omega (arith, l, h.places, units.places))));
    admits = (h.yes.0, answers-fit p (release_of terms) (due_of terms) window capacities h.yes.0 root h.yes.1);
  }

  -- so the first candidate is the first of all that are enough
  pub least-enough : (best : List ℕ) → IsLeast (IsBefore terms) (IsCandidate p window most) best → IsLeast (IsBefore terms) (IsEnough p terms) best
  least-enough best h = record {
    is = candidate-enough best h.is;
    least = λ other enough before. elim (vectors_ordered terms (cut p other) other) [
      | inl less ↦ h.least (cut p other) (enough-candidate other enough) (before_trans terms (cut p other) other best less before)
      | inr rest ↦ elim rest [
        | inl same ↦
            let Q : List ℕ → Type 0 = λ v. IsCandidate p window most v in
            h.least other (subst Q same (enough-candidate other enough)) before
        | inr more ↦ cut-no_later p terms other t enough.places more
      ]
    ];
  }
