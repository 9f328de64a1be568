use Rattle.std.proofs.Common.{ℕ, inl, length, arith, ap}
use Rattle.racp_search.proofs.Ranks.{few-jobs}
use Rattle.racp_search.proofs.expanding.are_few.Goals as goal

pub count-requires-clause-fits : goal.count-requires-clause-fits
count-requires-clause-fits c = inl (omega (arith, few-jobs c.args.active.now c.iter.ensures.jobs, ap (length {A = ℕ}) c.iter.ensures.same))
