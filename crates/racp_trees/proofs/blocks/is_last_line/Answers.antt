use Rattle.racp_trees.proofs.Vectors.{last_alone, last_not}
use Rattle.racp_trees.proofs.blocks.is_last_line.Goals as goal

pub returns-in-Some : goal.returns-in-Some
returns-in-Some c = last_alone c.args.text.now c.in-Some.rest.now c.is_empty.result c.in-Some.ensures c.is_empty.ensures

pub returns-in-None : goal.returns-in-None
returns-in-None c = (λ yes'. cc, λ same. absurd (last_not c.args.text.now c.in-None.ensures same))
