-- Starts that fit capacities on the terms of an order.
use Rattle.std.specs.Prelude.{◌≡◌, List, ℕ, length}
use Rattle.racp_model.specs.Project.{Project}
use Rattle.racp_model.specs.Terms.{Terms, IsWithinCeilings}
use Rattle.racp_model.specs.Plan.{FitsTerms}

-- starts that fit capacities on the terms of an order, within its ceilings
pub record AreFitting (p : Project) (terms : Terms) (capacities starts : List ℕ) : Type 0 where
  pub places : length capacities ≡ p.resources
  pub ceilings : IsWithinCeilings terms capacities
  pub fits : FitsTerms p terms capacities starts
