use Rattle.std.proofs.Common.{slice_index}
use Rattle.racp_cpm.proofs.earliest.longest.Goals as goal

pub returns : goal.returns
returns c = c.last_end.ensures.critical (slice_index c.args.release.now) c.in_ok-starts.ensures
