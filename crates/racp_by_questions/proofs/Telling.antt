-- What is told while planning goes on.
use Rattle.std.proofs.Common.{◌≡◌, ℕ, List, inl, inr, arith}
use Rattle.std.proofs.lemmas.Bool.{cases_lt}
use Rattle.racp_model.specs.Project.{Project}
use Rattle.racp_model.specs.Terms.{Terms, AreTermsOf, release_of, due_of, cost, IsBefore}
use Rattle.racp_model.specs.Plan.{IsLeast, IsEnough}
use Rattle.racp_model.specs.Window.{Bounds, IsRootWindow}
use Rattle.racp_model.proofs.lemmas.Costs.{cheaper-before}
use Rattle.racp_model.proofs.lemmas.Cuts.{cut, cut_places, cut-cost}
use Rattle.racp_prices.specs.Units.{AreMostUnits}
use Rattle.racp_bounds.specs.Floors.{AreFloors}
use Rattle.racp_bounds.specs.Sharp.{AreSharpenedBefore, IsReachedNews, IsSharp}
use Rattle.racp_bounds.specs.declared.sharp.Sharp.{Sharp}
use Rattle.racp_bounds.proofs.lemmas.Sharpened.{admitting_above_sharpened, admitting_yes, all_sharpened}
use Rattle.racp_by_questions.specs.Enough.{IsLeastCost}
use Rattle.racp_found.specs.declared.observer.News.{News}
use Rattle.racp_found.specs.declared.observer.News.TheVariants.{Deadline, Floors, Cost, Plan, Work}
use Rattle.racp_found.specs.Told.{AreFloorsOfEnough, IsLeastOfEnough, IsTrueNews}
use Rattle.racp_by_questions.proofs.lemmas.AtMost.{at_most-cost}
use Rattle.racp_by_questions.proofs.Choosing.{cut_admits, cut_less, cut_within, due_by, first_reached}

module _ (p : Project) (terms : Terms) (root : Bounds) (floors roofs : List ℕ) (t : AreTermsOf p terms) (h : IsRootWindow p (release_of terms) (due_of terms) root)
    (lowest : AreFloors p root terms.deadline floors) (most : AreMostUnits p terms roofs) where
  -- what is enough is at or above floors of which some are sharpened
  pub reached_floors : (n : ℕ) (reached : List ℕ) → AreSharpenedBefore p root floors roofs n reached → AreFloorsOfEnough p terms reached
  reached_floors n reached are = record {
    places = are.places;
    below = λ enough e k l.
        let low = admitting_above_sharpened p (release_of terms) (due_of terms) root terms.deadline n floors roofs reached (cut p enough) h (due_by p terms root floors roofs t h lowest most) lowest most.places are
        (cut_within p terms root floors roofs t h lowest most enough e) (cut_admits p terms root floors roofs t h lowest most enough e) k l in
        omega (arith, low, cut_less p terms root floors roofs t h lowest most enough k l);
  }

  -- so news of such floors is true
  pub reached_news : (n : ℕ) (news : News) → IsReachedNews p root floors roofs n news → IsTrueNews p terms news
  reached_news n (Deadline deadline) are = absurd are
  reached_news n (Floors reached) are = reached_floors n reached.now are
  reached_news n (Cost least) are = absurd are
  reached_news n (Plan capacities starts cost) are = absurd are
  reached_news n (Work conflicts clauses) are = absurd are

  -- so it is at or above the first floors
  pub first_floors : AreFloorsOfEnough p terms floors
  first_floors = reached_floors 0 floors (first_reached p terms root floors roofs t h lowest most)

  -- so it is at or above the sharpened floors
  pub sharp_are_floors : (sharp : Sharp) → IsSharp p root floors roofs sharp → AreFloorsOfEnough p terms sharp.floors
  sharp_are_floors sharp are = reached_floors p.resources sharp.floors (all_sharpened p root floors roofs sharp.floors are.sharpened)

  -- what is enough costs at least what it does within the roofs
  pub within_cost : (least : ℕ) → IsLeastCost p terms root roofs least → IsLeastOfEnough p terms least
  within_cost least is enough e =
      let within = is (cut p enough) (record {
        places = cut_places p enough;
        within = cut_within p terms root floors roofs t h lowest most enough e;
        yes = admitting_yes p (release_of terms) (due_of terms) root (cut p enough) h (cut_admits p terms root floors roofs t h lowest most enough e);
      }) in
      omega (arith, within, cut-cost p terms enough t)

-- the first that are enough cost least
pub first_cost : (p : Project) (terms : Terms) (first : List ℕ) → IsLeast (IsBefore terms) (IsEnough p terms) first → IsLeastOfEnough p terms (cost terms first)
first_cost p terms first least enough e = elim (cases_lt (cost terms enough) (cost terms first)) [
  | inl less ↦ absurd (least.least enough e (cheaper-before terms enough first less))
  | inr more ↦ more
]

-- capacities that are enough cost at least what floors do
pub floors_cost : (p : Project) (terms : Terms) → AreTermsOf p terms → (floors : List ℕ) → AreFloorsOfEnough p terms floors → (least : ℕ) → least ≡ cost terms floors → IsLeastOfEnough p terms least
floors_cost p terms t floors are least is enough e = omega (arith, is, at_most-cost p terms t floors enough (λ k l. are.below enough e k l))
