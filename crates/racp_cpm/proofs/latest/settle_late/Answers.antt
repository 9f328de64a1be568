use Rattle.racp_cpm.proofs.Lowering.{settled}
use Rattle.racp_cpm.proofs.latest.settle_late.Goals as goal

pub returns-then-take_durations : goal.returns-then-take_durations
returns-then-take_durations c = settled c.args.net.now c.args.starts.now c.take_durations.new.starts c.lower.new.starts c.lower.result c.requires c.if-take_durations.ensures c.lower.ensures
