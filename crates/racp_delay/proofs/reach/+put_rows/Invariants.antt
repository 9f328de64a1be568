use Rattle.std.proofs.Common.{length}
use Rattle.racp_delay.proofs.reach.+put_rows.Given as goal

abbrev pub decreases-put_rows : goal.decreases-put_rows
decreases-put_rows l = length l.jobs.now
