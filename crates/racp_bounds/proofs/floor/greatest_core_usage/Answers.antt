use Rattle.std.proofs.Common.{ℕ, length, slice_index, arith, ap}
use Rattle.racp_model.specs.CoreTimes.{core_usage}
use Rattle.racp_bounds.proofs.Cores.{greatest_core, greatest_next}
use Rattle.racp_bounds.proofs.floor.greatest_core_usage.Goals as goal

pub returns : goal.returns
returns c =
    greatest_core c.args.net.now c.args.root.now c.args.k c.loop-time.most c.loop-time.time-index c.upper-time-items.result.now c.upper-time-items.ensures.bounds (omega (arith, ap (length {A = ℕ}) c.upper-time-items.ensures.bounds)) c.loop-time.invariant

pub loop-time-preserved : goal.loop-time-preserved
loop-time-preserved c =
    greatest_next (λ j. core_usage c.args.net.now c.args.root.now c.args.k (slice_index c.upper-time-items.result.now j)) c.loop-time.most c.loop-time.time-index c.core_usage_at.result c.max-most.result c.core_usage_at.ensures
    c.max-most.ensures c.loop-time.invariant
