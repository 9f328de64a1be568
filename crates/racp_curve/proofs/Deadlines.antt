-- What is enough for one deadline, and the plans of others.
use Rattle.std.proofs.Common.{◌≡◌, ℕ, ◌≤◌, List, length, arith}
use Rattle.racp_model.specs.Project.{Project}
use Rattle.racp_model.specs.Schedule.{EndsBy}
use Rattle.racp_model.specs.Terms.{Terms, AreTermsOf, IsBefore, IsWithinCeilings}
use Rattle.racp_model.specs.Plan.{IsEnough, FitsTerms, NoneIsEnough}
use Rattle.racp_curve.specs.Curves.{order_by, ArePlanned}

-- what is enough for a deadline is enough for each later one
pub enough_later : (p : Project) (terms : Terms) (sooner later : ℕ) (capacities : List ℕ) → sooner ≤ later → IsEnough p (order_by sooner terms) capacities → IsEnough p (order_by later terms) capacities
enough_later p terms sooner later capacities l e = record {
  places = e.places;
  ceilings = e.ceilings;
  admits = (
    e.admits.0,
    record {
      places = e.admits.1.places;
      in_time = record {
        released = e.admits.1.in_time.released;
        ends = λ i m. omega (arith, l, e.admits.1.in_time.ends i m);
      };
      fits = e.admits.1.fits;
    },
  );
}

-- so where none are enough for a deadline, none are for an earlier one
pub none_sooner : (p : Project) (terms : Terms) (sooner later : ℕ) → sooner ≤ later → NoneIsEnough p (order_by later terms) → NoneIsEnough p (order_by sooner terms)
none_sooner p terms sooner later l none capacities e = none capacities (enough_later p terms sooner later capacities l e)

-- the capacities of a plan that are enough for an earlier deadline are those of the plan for each deadline between the two
pub planned_between : (p : Project) (terms : Terms) (sooner between later : ℕ) (capacities : List ℕ) → sooner ≤ between → between ≤ later → ArePlanned p (order_by later terms) capacities → IsEnough p (order_by sooner terms) capacities →
    ArePlanned p (order_by between terms) capacities
planned_between p terms sooner between later capacities from to planned e = record {
  is = enough_later p terms sooner between capacities from e;
  least = λ other enough before. planned.least other (enough_later p terms between later other to enough) before;
}

-- what stands before the capacities of a plan is enough for no earlier deadline
pub not_enough_sooner : (p : Project) (terms : Terms) (sooner later : ℕ) (planned capacities : List ℕ) → sooner ≤ later → ArePlanned p (order_by later terms) planned → IsBefore terms capacities planned → IsEnough p (order_by sooner terms) capacities → ⊥
not_enough_sooner p terms sooner later planned capacities l is before e = is.least capacities (enough_later p terms sooner later capacities l e) before

-- starts that fit for one deadline fit for each by which they end
pub enough_by : (p : Project) (terms : Terms) (deadline end : ℕ) (capacities starts : List ℕ) → length capacities ≡ p.resources → IsWithinCeilings terms capacities → FitsTerms p (order_by deadline terms) capacities starts → EndsBy p (λ _. end) starts →
    IsEnough p (order_by end terms) capacities
enough_by p terms deadline end capacities starts places ceilings fits ends = record {
  places = places;
  ceilings = ceilings;
  admits = (
    starts,
    record {
      places = fits.places;
      in_time = record {
        released = fits.in_time.released;
        ends = λ i m. omega (arith, ends i m, fits.in_time.ends i m);
      };
      fits = fits.fits;
    },
  );
}

-- they end by that deadline
pub fits_end : (p : Project) (terms : Terms) (deadline : ℕ) (capacities starts : List ℕ) → FitsTerms p (order_by deadline terms) capacities starts → EndsBy p (λ _. deadline) starts
fits_end p terms deadline capacities starts fits i m = omega (arith, fits.in_time.ends i m)

-- the terms of an order with an earlier deadline
pub terms_by : (p : Project) (terms : Terms) (deadline : ℕ) → deadline ≤ terms.deadline → AreTermsOf p terms → AreTermsOf p (order_by deadline terms)
terms_by p terms deadline l t = record {
  deadline = omega (arith, l, t.deadline);
  price_places = t.price_places;
  prices = t.prices;
  owned_places = t.owned_places;
  owned = t.owned;
  ceiling_places = t.ceiling_places;
  ceilings = t.ceilings;
  release_places = t.release_places;
  release = t.release;
  due_places = t.due_places;
  due = t.due;
}
