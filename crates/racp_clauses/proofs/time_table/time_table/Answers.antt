use Rattle.std.proofs.Common.{◌≡◌, ◌+◌, ◌<◌, slice_index, arith, ap, subst, sym}
use Rattle.racp_model.specs.Project.{duration, request}
use Rattle.racp_clauses.specs.Solutions.{units_place, values}
use Rattle.racp_clauses.specs.Inferences.{Allows}
use Rattle.racp_clauses.specs.Rules.{usage_beside}
use Rattle.racp_clauses.specs.declared.inference.Inference.{Inference}
use Rattle.racp_clauses.proofs.TimeTable.{outside-allowed}
use Rattle.racp_clauses.proofs.time_table.time_table.Goals as goal

pub returns-clause-follows : goal.returns-clause-follows
returns-clause-follows c terms starts capacities h w =
    let p = c.args.net.now in
    let bounds = c.args.bounds.now in
    let upper = slice_index bounds.upper in
    let at : upper (c.job_count.result + c.args.k) ≡ upper (units_place p c.args.k) = ap (λ n. upper (n + c.args.k)) c.job_count.ensures.count in
    let over : upper (units_place p c.args.k) < usage_beside p bounds c.args.k c.args.times.from c.args.times.until c.args.j + request p c.args.j c.args.k =
    omega (arith, c.if-used_beside-request.false, c.upper-units.ensures.bound, at, c.used_beside.ensures.used, c.request.ensures) in
    let some : c.args.times.from < c.args.times.until = omega (arith, c.if-times.false) in
    let runs : 0 < duration p c.args.j = omega (arith, c.duration.ensures, c.if-duration-eq0.false) in
    subst (λ (i : Inference). Allows i (values terms starts capacities)) (sym c.start_outside.ensures)
    (outside-allowed p terms starts capacities h bounds c.requires.places w c.args.k c.args.times.from c.args.times.until c.args.j c.requires.resource c.requires.job over some runs)
