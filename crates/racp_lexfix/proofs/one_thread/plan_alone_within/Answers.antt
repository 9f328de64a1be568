use Rattle.racp_lexfix.proofs.one_thread.plan_alone_within.Goals as goal

pub returns : goal.returns
returns c = c.answer_order.ensures c.args.net_bytes.now c.in_ok-net.ensures
