use Rattle.racp_prove.proofs.by_trees.prove_until.Goals as goal

pub returns : goal.returns
returns g c = c.prove_order.ensures c.args.net_bytes.now c.in_ok-net.ensures
