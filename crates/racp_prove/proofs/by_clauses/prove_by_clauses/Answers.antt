use Rattle.racp_prove.proofs.by_clauses.prove_by_clauses.Goals as goal

pub returns : goal.returns
returns g c = c.prove_order.ensures c.args.net_bytes.now c.in_ok-net.ensures
