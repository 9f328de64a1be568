use Rattle.std.proofs.Common.{slice_index, refl}
use Rattle.std.proofs.lemmas.Result.{err_from_is_err_and}
use Rattle.racp_model.proofs.Topological.{in_order}
use Rattle.racp_model.proofs.topology.ordered.Goals as goal

pub returns-in_err-by_rank : goal.returns-in_err-by_rank
returns-in_err-by_rank c =
    let p = err_from_is_err_and c.from_residual.result c.from_residual.ensures.1 in
    rw (p.1, p.2) (slice_index c.rank_jobs.new.rank, c.if-not-rank_jobs.ensures.rises refl)

pub returns : goal.returns
returns c = (
  (slice_index c.rank_jobs.new.rank, c.if-not-rank_jobs.ensures.rises refl),
  in_order c.args.arcs.now c.rank_jobs.new.rank c.in_ok-by_rank.field-0.items c.in_ok-by_rank.ensures (c.if-not-rank_jobs.ensures.rises refl),
)
