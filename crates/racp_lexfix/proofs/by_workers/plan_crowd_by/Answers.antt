use Rattle.racp_lexfix.proofs.by_workers.plan_crowd_by.Goals as goal

pub returns : goal.returns
returns g c = c.answer_order_by.ensures c.args.net_bytes.now c.in_ok-net.ensures
