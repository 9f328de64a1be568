-- The order of a team: what is owned is all that there is.
use Rattle.std.specs.Prelude.{ℕ, Bool, List, Option, Some, None, nat_lt, if◌then◌else◌}
use Rattle.std.specs.List.{list_any}
use Rattle.racp_model.specs.Terms.{Terms}

-- whether a unit of some resource is owned
abbrev pub owns_some : List ℕ → Bool
owns_some owned = list_any (nat_lt 0) owned

-- ceilings; without ceilings, the owned units, if there are any
abbrev pub ceilings_of_team : (ceilings : Option (List ℕ)) → (owned : List ℕ) → Option (List ℕ)
ceilings_of_team (Some ceilings) owned = Some ceilings
ceilings_of_team None owned = if owns_some owned then Some owned else None

-- the most units that the team of an order has of each resource, if there is a bound
abbrev pub team_of : Terms → Option (List ℕ)
team_of terms = ceilings_of_team terms.ceilings terms.owned

-- an order with another deadline and other ceilings; nothing else changes
abbrev pub order_with : ℕ → Option (List ℕ) → Terms → Terms
order_with deadline ceilings terms = record {
  deadline = deadline;
  prices = terms.prices;
  owned = terms.owned;
  ceilings = ceilings;
  release = terms.release;
  due = terms.due;
}

-- the order of the team
abbrev pub order_of_team : Terms → Terms
order_of_team terms = order_with terms.deadline (team_of terms) terms
