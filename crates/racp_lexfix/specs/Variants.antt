-- Variants of an order, for which what is learned of it holds.
use Rattle.std.specs.Prelude.{◌≡◌}
use Rattle.racp_model.specs.Terms.{Terms}
use Rattle.racp_clauses.specs.Solutions.{Problem}
use Rattle.racp_by_clauses.specs.declared.task.Task.{Task}

-- terms with the same prices and owned units: those of a problem of which clauses may be taken over
pub record IsVariantOf (whole other : Terms) : Type 0 where
  pub prices : other.prices ≡ whole.prices
  pub owned : other.owned ≡ whole.owned

-- the problem that a task is of
abbrev pub problem_of : Task → Problem
problem_of task = record { network = task.net.now; terms = task.order.now; root = task.root.now }
