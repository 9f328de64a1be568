use Rattle.std.proofs.Common.{codes, refl}
use Rattle.std.proofs.lemmas.Result.{err_from_is_err_and}
use Rattle.racp_plan.specs.Texts.{line}
use Rattle.racp_cli.specs.Texts.{memory_line}
use Rattle.racp_cli.proofs.respond.respond.Goals as goal

pub returns-in_err-write_whole-in-Err : goal.returns-in_err-write_whole-in-Err
unfolding memory_line line
returns-in_err-write_whole-in-Err g c =
    let p = err_from_is_err_and c.from_residual-in_err-write_whole-in-Err.result c.from_residual-in_err-write_whole-in-Err.ensures.1 in
    rw (p.1, p.2) (c.in_err-write_whole-in-Err.ensures.0, 6, codes "memory\n", rw c.in-Err.is (refl, refl), c.in_err-write_whole-in-Err.ensures.1)

pub returns-in_ok-write_whole-in-Err : goal.returns-in_ok-write_whole-in-Err
unfolding memory_line line
returns-in_ok-write_whole-in-Err g c = (codes "memory\n", rw c.in-Err.is (refl, refl), c.in_ok-write_whole-in-Err.ensures)
