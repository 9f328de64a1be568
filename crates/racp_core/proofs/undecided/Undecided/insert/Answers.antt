use Rattle.std.proofs.Common.{List, ℕ, subst}
use Rattle.racp_core.specs.Rows.{IsAdded}
use Rattle.racp_core.proofs.Places.{added}
use Rattle.racp_core.proofs.undecided.Undecided.insert.Goals as goal

pub returns-clause-ok : goal.returns-clause-ok
returns-clause-ok c =
    subst (λ (old : List ℕ). IsAdded old c.args.place c.insert.new.self.keys) c.self.view_is (added c.self.inside.places c.insert.new.self c.args.place c.in_ok-insert.ensures.updates)
