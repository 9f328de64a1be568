use Rattle.racp_core.proofs.States.{settled_done}
use Rattle.std.proofs.Common.{refl}
use Rattle.racp_core.proofs.collector.handing.remove_if_done.Goals as goal

pub returns-then-is_done : goal.returns-then-is_done
returns-then-is_done c = settled_done c.args.rows.now c.args.index c.index-rows-index.result c.args.undecided.now c.remove.new.self c.requires c.index-rows-index.is (c.if-is_done.ensures.0 refl) c.remove.ensures
