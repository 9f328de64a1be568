-- Where some capacities are enough for an order, there is a plan.
use Rattle.std.proofs.Common.{◌⊎◌, ℕ, inl, inr, List, arith}
use Rattle.racp_model.specs.Project.{Project, IsSound}
use Rattle.racp_model.specs.Schedule.{roof}
use Rattle.racp_model.specs.Terms.{Terms, AreTermsOf, IsBefore}
use Rattle.racp_model.specs.Plan.{IsLeast, IsEnough, IsPlan}
use Rattle.racp_model.proofs.lemmas.Costs.{before_trans, before_apart}
use Rattle.racp_model.proofs.lemmas.Cuts.{cut, cut-at, cut_places, cut_before, cut-enough}
use Rattle.racp_model.proofs.lemmas.Leasts.{IsOneUpTo, least_up_to}
use Rattle.racp_model.proofs.lemmas.Tested.{before_decided, least_fitting, enough_decided}

module _ (p : Project) (terms : Terms) (sound : IsSound p) (t : AreTermsOf p terms) where
  -- cut to the roofs, capacities that are enough are looked at
  pub cut_looked_at : (whole : List ℕ) → IsEnough p terms whole → IsOneUpTo p.resources (roof p) (IsEnough p terms) (cut p whole)
  cut_looked_at whole e = (record { places = cut_places p whole; below = λ k l. omega (arith, cut-at p whole k l) }, cut-enough p terms whole e)

  -- and the first of those that are looked at is the first of all
  pub first_of_all : (vector : List ℕ) → IsLeast (IsBefore terms) (IsOneUpTo p.resources (roof p) (IsEnough p terms)) vector → IsLeast (IsBefore terms) (IsEnough p terms) vector
  first_of_all vector h = record {
    is = h.is.1;
    least = λ other e before. h.least (cut p other) (cut_looked_at other e) (cut_before p terms other vector t e.places before);
  }

  -- there is a plan, or no capacities are enough
  pub plan_or_none : ((capacities : List ℕ) × (starts : List ℕ) × IsPlan p terms capacities starts) ⊎ ((capacities : List ℕ) → IsEnough p terms capacities → ⊥)
  plan_or_none = elim (least_up_to p.resources (roof p) (IsBefore terms) (IsEnough p terms) (before_trans terms) (before_apart terms) (before_decided terms) (enough_decided p sound terms)) [
    | inl some ↦
        let vector : IsLeast (IsBefore terms) (IsEnough p terms) some.0 = first_of_all some.0 some.1 in
        elim (least_fitting p sound terms some.0) [
          | inl starts ↦ inl (some.0, starts.0, record { vector = vector; schedule = starts.1 })
          | inr none ↦ absurd (none vector.is.admits.0 vector.is.admits.1)
        ]
    | inr none ↦ inr (λ capacities e. none (cut p capacities) (cut_looked_at capacities e))
  ]
