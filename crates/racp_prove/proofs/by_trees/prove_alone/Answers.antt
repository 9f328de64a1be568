use Rattle.racp_prove.proofs.Certified.{proved_quietly}
use Rattle.racp_prove.proofs.by_trees.prove_alone.Goals as goal

pub returns : goal.returns
returns c = proved_quietly c.args.net_bytes.now c.args.order_text.now c.prove_until.result c.prove_until.ensures
