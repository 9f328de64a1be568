-- Drafts: schedules on the terms of an order, with the capacities that they need and the cost of these.
use Rattle.std.specs.Prelude.{◌≡◌}
use Rattle.racp_model.specs.Project.{Project}
use Rattle.racp_model.specs.Schedule.{ArePeaks}
use Rattle.racp_model.specs.Terms.{Terms, cost}
use Rattle.racp_plan.specs.Fitting.{AreFitting}
use Rattle.racp_drafts.specs.declared.draft.Draft.{Draft}

-- the starts fit the capacities on the order's terms and within its ceilings; the capacities are the peaks of the starts,
-- and the draft says what they cost
pub record IsDraft (p : Project) (terms : Terms) (draft : Draft) : Type 0 where
  pub fits : AreFitting p terms draft.capacities draft.starts
  pub peaks : ArePeaks p draft.starts draft.capacities
  pub priced : draft.cost ≡ cost terms draft.capacities
