-- What the engine by clauses starts from.
use Rattle.racp_model.specs.Project.{Project}
use Rattle.racp_model.specs.Terms.{Terms}
use Rattle.racp_clauses.specs.Roots.{IsOpen}
use Rattle.racp_found.specs.Told.{AreFloorsOfEnough}
use Rattle.racp_lexfix.specs.declared.roots.RootBounds.{RootBounds}
use Rattle.racp_lexfix.specs.declared.searches.Start.{Start}

-- root bounds leave nothing out, and floors are those of all that is enough
pub record AreRootBounds (p : Project) (terms : Terms) (root : RootBounds) : Type 0 where
  pub is_open : IsOpen (record { network = p; terms = terms; root = root.bounds })
  pub floors : AreFloorsOfEnough p terms root.floors

-- root bounds from which a search begins leave nothing out
abbrev pub IsStart : Project → Terms → Start → Type 0
IsStart p terms start = IsOpen (record { network = p; terms = terms; root = start.bounds })
