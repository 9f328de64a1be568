use Rattle.racp_trees.proofs.Holding.{trees_refuted}
use Rattle.racp_trees.proofs.laws.trees_refute.Goals as goal

pub returns : goal.returns
returns c = trees_refuted c.children_cover.ensures c.covering_refutes.ensures
