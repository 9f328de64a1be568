use Rattle.std.proofs.Common.{rules, ◌≡◌, ◌<◌, ap, refl, length, arith}
use Rattle.racp_core.specs.Machine.{QuestionRow}
use Rattle.racp_core.proofs.OutAndBack.{taken_out}
use Rattle.racp_core.proofs.row.Row.put.Goals as goal

pub returns-clause-ok : goal.returns-clause-ok
returns-clause-ok g c =
    let e : length c.self.inside.out.items ≡ length c.args.self.now.out = ap (λ (r : QuestionRow). length r.out) c.self.view_is in
    let l : c.args.at < length c.self.inside.out.items = omega arith in
    let taken = taken_out c.self.inside.out.items c.swap_remove.new.self.items c.args.at c.swap_remove.result l c.swap_remove.ensures.value c.swap_remove.ensures.items in
    rw (← c.self.view_is) (refl, search rules, taken)
