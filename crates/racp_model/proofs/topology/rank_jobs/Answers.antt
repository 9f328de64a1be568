use Rattle.racp_model.proofs.Raising.{total-nearer}
use Rattle.racp_model.proofs.topology.rank_jobs.Goals as goal

pub sweeps-smaller : goal.sweeps-smaller
sweeps-smaller c = total-nearer c.args.arcs.now c.sweeps.rank c.raise_ranks.new.rank c.in-Raised.ensures
