use Rattle.std.proofs.Common.{◌∙◌, List, ℕ, [], length, ap}
use Rattle.racp_trees.proofs.Starting.{early_small}
use Rattle.racp_trees.proofs.maker.row_of.Goals as goal

pub new-requires-clause-small : goal.new-requires-clause-small
new-requires-clause-small c i l =
    early_small c.args.ground.now.net.now c.args.lower.now c.args.early.now c.job_count.ensures.sound c.requires.lower c.requires.small c.requires.early i l

pub returns : goal.returns
returns c = record {
  capacities = ap (λ (xs : List ℕ). length xs) ((c.in_ok-row.ensures []).capacities ∙ c.as_slice.ensures) ∙ c.requires.capacities;
  bounds = (c.in_ok-row.ensures []).places;
}
