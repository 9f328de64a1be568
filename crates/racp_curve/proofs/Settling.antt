-- Plans that settle earlier deadlines than their own.
use Rattle.std.proofs.Common.{◌≡◌, ◌∙◌, ℕ, ◌≤◌, List, Some, None, sym, ap, subst, arith}
use Rattle.racp_model.specs.Path.{IsCriticalLength}
use Rattle.racp_model.specs.Schedule.{EndsBy}
use Rattle.racp_model.specs.Terms.{release_of, cost, IsBefore}
use Rattle.racp_model.specs.Plan.{FitsTerms, IsEnough, IsPlan}
use Rattle.racp_model.proofs.lemmas.Orders.{least_unique, vectors_ordered}
use Rattle.racp_plan.specs.declared.plan.Plan.{Plan}
use Rattle.racp_plan.specs.Plans.{IsPlanOf}
use Rattle.racp_clauses.specs.Solutions.{Problem}
use Rattle.racp_curve.specs.Curves.{order_by, ArePlanned}
use Rattle.racp_curve.specs.Following.{ArePlannedFrom, IsSettled, IsSettledFor, IsSooner, SettledPlan}
use Rattle.racp_curve.proofs.Deadlines.{enough_by, planned_between}

-- the capacities of a settled plan are enough for each time by which it ends
enough_until : (q : Problem) (s : SettledPlan) (end : ℕ) → IsSettled q s → EndsBy q.network (λ _. end) s.plan.starts → IsEnough q.network (order_by end q.terms) s.plan.capacities
enough_until q s end h ends =
    let plan = h.is_plan.is_plan in
    enough_by q.network q.terms s.plan.deadline end s.plan.capacities s.plan.starts plan.vector.is.places plan.vector.is.ceilings plan.schedule.is ends

-- so for the time at which it ends
pub settled_enough : (q : Problem) (s : SettledPlan) (deadline : ℕ) (capacities : List ℕ) → IsSettled q s → s.end ≤ deadline → s.plan.capacities ≡ capacities → IsSooner q.network q.terms capacities deadline (Some s.end)
settled_enough q s deadline capacities h within same = (within, subst (λ (c : List ℕ). IsEnough q.network (order_by s.end q.terms) c) same (enough_until q s s.end h h.ends))

module _ (q : Problem) (deadline : ℕ) (s : SettledPlan) (h : IsSettledFor q deadline s) where
  ends_by : EndsBy q.network (λ _. deadline) s.plan.starts
  ends_by i l = omega (arith, h.is.ends i l, h.from)

  fits_by : FitsTerms q.network (order_by deadline q.terms) s.plan.capacities s.plan.starts
  fits_by =
      let fits = h.is.is_plan.is_plan.schedule.is in
      record {
        places = fits.places;
        in_time = record {
          released = fits.in_time.released;
          ends = λ i m. omega (arith, ends_by i m, fits.in_time.ends i m);
        };
        fits = fits.fits;
      }

  -- what fits for the deadline fits for the plan's own
  fits_later : (starts : List ℕ) → FitsTerms q.network (order_by deadline q.terms) s.plan.capacities starts → FitsTerms q.network (order_by s.plan.deadline q.terms) s.plan.capacities starts
  fits_later starts fits = record {
    places = fits.places;
    in_time = record {
      released = fits.in_time.released;
      ends = λ i m. omega (arith, h.to, fits.in_time.ends i m);
    };
    fits = fits.fits;
  }

  settled_vector : ArePlanned q.network (order_by deadline q.terms) s.plan.capacities
  settled_vector = planned_between q.network q.terms deadline deadline s.plan.deadline s.plan.capacities (omega arith) h.to h.is.is_plan.is_plan.vector (enough_until q s deadline h.is ends_by)

  settled_is : IsPlan q.network (order_by deadline q.terms) s.plan.capacities s.plan.starts
  settled_is = record {
    vector = settled_vector;
    schedule = record {
      is = fits_by;
      least = λ other fits before. h.is.is_plan.is_plan.schedule.least other (fits_later other fits) before;
    };
  }

  -- it is the plan for that deadline
  pub settled_plan : (plan : Plan) → plan.deadline ≡ deadline → plan.critical ≡ s.plan.critical → plan.cost ≡ s.plan.cost → plan.capacities ≡ s.plan.capacities → plan.starts ≡ s.plan.starts → IsPlanOf q.network (order_by deadline q.terms) plan
  settled_plan plan by of_critical of_cost of_capacities of_starts = record {
    is_plan = subst (λ (c : List ℕ). IsPlan q.network (order_by deadline q.terms) c plan.starts) (sym of_capacities)
        (subst (λ (x : List ℕ). IsPlan q.network (order_by deadline q.terms) s.plan.capacities x) (sym of_starts) settled_is);
    deadline = by;
    cost = of_cost ∙ (h.is.is_plan.cost ∙ ap (λ (c : List ℕ). cost q.terms c) (sym of_capacities));
    critical = subst (λ (n : ℕ). IsCriticalLength q.network (release_of q.terms) n) (sym of_critical) h.is.is_plan.critical;
  }

  -- other capacities of the plan for a later deadline are not enough for that one, or they were those of its plan
  pub settled_not : (capacities : List ℕ) → ArePlannedFrom q.network q.terms deadline capacities → (s.plan.capacities ≡ capacities → ⊥) → IsSooner q.network q.terms capacities deadline None
  settled_not capacities planned others e =
      let later : ArePlanned q.network (order_by deadline q.terms) capacities = planned_between q.network q.terms deadline deadline planned.0 capacities (omega arith) planned.1 planned.2 e in
      others (least_unique (IsBefore (order_by deadline q.terms)) (IsEnough q.network (order_by deadline q.terms)) (vectors_ordered (order_by deadline q.terms)) s.plan.capacities capacities settled_vector later)
