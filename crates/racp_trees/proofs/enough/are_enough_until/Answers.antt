use Rattle.racp_trees.proofs.Boxes.{gap_told}
use Rattle.racp_trees.proofs.enough.are_enough_until.Goals as goal

pub returns-clause-told : goal.returns-clause-told
returns-clause-told g c = gap_told c.args.claim.now c.args.blocks.now c.in_ok-gap_until.field-0 c.is_none.result c.is_none.ensures c.in_ok-gap_until.ensures.gap
