use Rattle.std.proofs.Common.{List, ℕ, subst}
use Rattle.racp_core.specs.Rows.{IsRemoved}
use Rattle.racp_core.proofs.Places.{removed}
use Rattle.racp_core.proofs.undecided.Undecided.remove.Goals as goal

pub returns : goal.returns
returns c =
    subst (λ (old : List ℕ). IsRemoved old c.args.place c.remove.new.self.keys) c.self.view_is (removed c.self.inside.places c.remove.new.self c.args.place c.remove.ensures.updates)
