use Rattle.std.proofs.Common.{◌≡◌, arith}
use Rattle.std.proofs.lemmas.Bool.Decides.{Decides-eqb}
use Rattle.std.proofs.lemmas.Slice.Eq.{slice_eq-Decides}
use Rattle.racp_model.specs.Project.{duration}
use Rattle.racp_tables.proofs.Equal.{same_job}
use Rattle.racp_tables.proofs.same.is_same_job.Goals as goal

pub returns-then-duration : goal.returns-then-duration
returns-then-duration c = λ e.
    let a = c.requests in
    let b = c.requests-then-duration in
    let durations : duration c.args.a.now c.args.i ≡ duration c.args.b.now c.args.i = omega (arith, c.if-duration.true, c.duration.ensures, c.duration-2.ensures) in
    same_job c.args.a.now c.args.b.now c.args.i a.result.now b.result.now c.requires.a c.requires.b durations a.ensures.sound b.ensures.sound a.ensures.count b.ensures.count
    a.ensures.requests b.ensures.requests ((slice_eq-Decides Decides-eqb _ _ _ c.eq.ensures).0 e)
