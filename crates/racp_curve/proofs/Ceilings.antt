-- Capacities that are enough for a deadline, as the ceilings of an order.
use Rattle.std.proofs.Common.{◌≡◌, ℕ, ◌≤◌, List, length, Some, None, arith}
use Rattle.racp_model.specs.Project.{Project}
use Rattle.racp_model.specs.Schedule.{EndsBy}
use Rattle.racp_model.specs.Terms.{Terms, IsWithinCeilings}
use Rattle.racp_model.specs.Plan.{FitsTerms, NoneIsEnough}
use Rattle.racp_drafts.specs.Drafts.{IsDraft}
use Rattle.racp_drafts.specs.declared.draft.Draft.{Draft}
use Rattle.racp_curve.specs.Curves.{order_by}
use Rattle.racp_curve.specs.Following.{order_within, IsSooner}
use Rattle.racp_curve.proofs.Deadlines.{enough_by}

module _ (p : Project) (terms : Terms) (deadline : ℕ) (capacities : List ℕ) where
  -- starts of a draft within such ceilings fit the capacities
  draft_fits : (draft : Draft) → IsDraft p (order_within capacities (order_by deadline terms)) draft → FitsTerms p (order_by deadline terms) capacities draft.starts
  draft_fits draft is = record {
    places = is.fits.fits.places;
    in_time = record {
      released = is.fits.fits.in_time.released;
      ends = is.fits.fits.in_time.ends;
    };
    fits = record {
      precedence = is.fits.fits.fits.precedence;
      within = λ k t l. omega (arith, is.fits.fits.fits.within k t l, is.fits.ceilings k (omega (arith, l, is.fits.places)));
    };
  }

  -- so the capacities are enough for the deadline by which they end
  pub draft_sooner : (draft : Draft) (end : ℕ) → IsDraft p (order_within capacities (order_by deadline terms)) draft → length capacities ≡ p.resources → IsWithinCeilings terms capacities → end ≤ deadline →
      EndsBy p (λ _. end) draft.starts → IsSooner p terms capacities deadline (Some end)
  draft_sooner draft end is places ceilings within ends = (within, enough_by p terms deadline end capacities draft.starts places ceilings (draft_fits draft is) ends)

  -- where none are enough within such ceilings, they are not
  pub none_within : NoneIsEnough p (order_within capacities (order_by deadline terms)) → IsSooner p terms capacities deadline None
  none_within none e = none capacities (record {
    places = e.places;
    ceilings = λ k l. omega arith;
    admits = (
      e.admits.0,
      record {
        places = e.admits.1.places;
        in_time = record {
          released = e.admits.1.in_time.released;
          ends = e.admits.1.in_time.ends;
        };
        fits = e.admits.1.fits;
      },
    );
  })
