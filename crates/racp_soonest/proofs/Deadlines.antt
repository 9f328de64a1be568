-- What is enough for one deadline, and the plans of others.
use Rattle.std.proofs.Common.{◌≡◌, ℕ, ◌≤◌, List, length, arith}
use Rattle.racp_model.specs.Project.{Project}
use Rattle.racp_model.specs.Schedule.{EndsBy}
use Rattle.racp_model.specs.Terms.{Terms, IsWithinCeilings}
use Rattle.racp_model.specs.Plan.{IsEnough, FitsTerms, NoneIsEnough}
use Rattle.racp_curve.specs.Curves.{order_by}

-- what is enough for a deadline is enough for each later one
pub enough_later : (p : Project) (terms : Terms) (sooner later : ℕ) (capacities : List ℕ) → sooner ≤ later → IsEnough p (order_by sooner terms) capacities → IsEnough p (order_by later terms) capacities
enough_later p terms sooner later capacities l e = record {
  places = e.places;
  ceilings = e.ceilings;
  admits = (
    e.admits.0,
    record {
      places = e.admits.1.places;
      in_time = record {
        released = e.admits.1.in_time.released;
        ends = λ i m. omega (arith, l, e.admits.1.in_time.ends i m);
      };
      fits = e.admits.1.fits;
    },
  );
}

-- so where none are enough for a deadline, none are for an earlier one
pub none_sooner : (p : Project) (terms : Terms) (sooner later : ℕ) → sooner ≤ later → NoneIsEnough p (order_by later terms) → NoneIsEnough p (order_by sooner terms)
none_sooner p terms sooner later l none capacities e = none capacities (enough_later p terms sooner later capacities l e)

-- starts that fit for one deadline fit for each by which they end
pub enough_by : (p : Project) (terms : Terms) (deadline end : ℕ) (capacities starts : List ℕ) → length capacities ≡ p.resources → IsWithinCeilings terms capacities → FitsTerms p (order_by deadline terms) capacities starts → EndsBy p (λ _. end) starts →
    IsEnough p (order_by end terms) capacities
enough_by p terms deadline end capacities starts places ceilings fits ends = record {
  places = places;
  ceilings = ceilings;
  admits = (
    starts,
    record {
      places = fits.places;
      in_time = record {
        released = fits.in_time.released;
        ends = λ i m. omega (arith, ends i m, fits.in_time.ends i m);
      };
      fits = fits.fits;
    },
  );
}
