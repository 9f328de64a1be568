use Rattle.std.proofs.Common.{List, ℕ, ◌∙◌, ap, set}
use Rattle.racp_model.proofs.capacities.Capacities.with_units.Goals as goal

pub returns : goal.returns
returns c = c.new.ensures ∙ ap (λ (xs : List ℕ). set xs c.args.k c.args.units) c.self.view_is
