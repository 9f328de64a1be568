-- What a search for the plan of an order is about, and what it may tell on its way.
use Rattle.std.specs.Prelude.{◌≡◌, ℕ, ◌<◌, ◌≤◌, List, slice_index, ⊤}
use Rattle.racp_model.specs.Project.{Project}
use Rattle.racp_model.specs.Terms.{Terms}
use Rattle.racp_model.specs.Plan.{IsEnough, NoneIsEnough}
use Rattle.racp_clauses.specs.Solutions.{Problem}
use Rattle.racp_clauses.specs.Roots.{IsOpen, IsPartOf}
use Rattle.racp_found.specs.Finds.{IsFound}
use Rattle.racp_found.specs.Told.{AreFloorsOfEnough}
use Rattle.racp_drafts.specs.Drafts.{IsDraft}
use Rattle.racp_by_clauses.specs.declared.feasible.Feasible.{Feasible}
use Rattle.racp_by_clauses.specs.declared.feasible.Feasible.TheVariants.{Fits, NoneFits, Unknown}
use Rattle.racp_by_clauses.specs.declared.optimum.Optimum.{Optimum}
use Rattle.racp_by_clauses.specs.declared.task.Task.{Task}
use Rattle.racp_by_clauses.specs.declared.task.Tasks.{Tasks}

-- the network, the terms and the root bounds of a problem, and these leave nothing out
pub record IsTaskOf (q : Problem) (task : Task) : Type 0 where
  pub network : task.net.now ≡ q.network
  pub terms : task.order.now ≡ q.terms
  pub root : task.root.now ≡ q.root
  pub is_open : IsOpen q

-- two problems of one network, with the same prices and owned units
pub record AreAkin (one other : Problem) : Type 0 where
  pub network : one.network ≡ other.network
  pub prices : one.terms.prices ≡ other.terms.prices
  pub owned : one.terms.owned ≡ other.terms.owned

-- two tasks are of two problems of which one is part of the other
pub record AreTasksOf (whole part : Problem) (tasks : Tasks) : Type 0 where
  pub of_whole : IsTaskOf whole tasks.whole
  pub of_part : IsTaskOf part tasks.part
  pub is_part : IsPartOf part whole

-- all capacities that are enough have at least so many units of a resource
abbrev pub AreLeastUnits : Problem → ℕ → ℕ → Type 0
AreLeastUnits q k least = (enough : List ℕ) → IsEnough q.network q.terms enough → k < q.network.resources →
    least ≤ slice_index enough k

-- what is found of the plan, and floors of all that is enough
pub record IsOptimum (p : Project) (terms : Terms) (optimum : Optimum) : Type 0 where
  pub found : IsFound p terms optimum.found
  pub floors : AreFloorsOfEnough p terms optimum.floors

-- a draft; that no capacities are enough; or neither
abbrev pub IsFeasible : Project → Terms → Feasible → Type 0
IsFeasible p terms (Fits draft) = IsDraft p terms draft
IsFeasible p terms NoneFits = NoneIsEnough p terms
IsFeasible p terms Unknown = ⊤
