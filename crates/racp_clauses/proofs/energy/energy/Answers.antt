use Rattle.std.proofs.Common.{◌≡◌, ◌≤◌, ◌+◌, ◌-◌, ◌*◌, ◌<◌, ℕ, length, slice_index, arith, subst}
use Rattle.std.specs.Int.{div_ceil}
use Rattle.racp_model.specs.Schedule.{sum_below}
use Rattle.racp_clauses.specs.Solutions.{values}
use Rattle.racp_clauses.specs.Rules.{least_work}
use Rattle.racp_clauses.proofs.Sums.{div_ceil-le}
use Rattle.racp_clauses.proofs.Values.{at_units}
use Rattle.racp_clauses.proofs.Work.{work-within}
use Rattle.racp_clauses.proofs.energy.energy.Goals as goal

pub returns-clause-follows : goal.returns-clause-follows
returns-clause-follows c terms starts capacities h w =
    let p = c.args.net.now in
    let k : ℕ = c.args.k in
    let from : ℕ = c.args.times.from in
    let until : ℕ = c.args.times.until in
    let bounds = c.args.bounds.now in
    let some : 0 < until - from = omega (arith, c.if-times.false) in
    let end : from + (until - from) ≡ until = omega (arith, c.if-times.false) in
    let within : sum_below (length p.jobs) (least_work p bounds k from until) ≤ slice_index capacities k * (until - from) =
    subst (λ (t : ℕ). sum_below (length p.jobs) (least_work p bounds k from t) ≤ slice_index capacities k * (until - from)) end (work-within p terms starts capacities h bounds c.requires.places w k from (until - from) c.requires.resource) in
    let at : slice_index (values terms starts capacities) (c.job_count.result + k) ≡ slice_index capacities k = rw c.job_count.ensures.count (at_units p terms starts capacities h k c.requires.resource) in
    let least : div_ceil c.work.result (until - from) ≤ slice_index capacities k = div_ceil-le c.work.result (until - from) (slice_index capacities k) some (omega (arith, within, c.work.ensures)) in
    omega (arith, at, least, c.div_ceil-units.ensures)
