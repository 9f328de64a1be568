use Rattle.std.proofs.Common.{◌≡◌, ◌++◌, IfOk, string_bytes, rules}
use Rattle.std.proofs.lemmas.Result.{IfOk-weaker}
use Rattle.racp_explain.specs.Causes.{placed_head}
use Rattle.racp_explain.proofs.Heads.{begins, placed_pieces}
use Rattle.racp_explain.proofs.placing.placed.Goals as goal

pub returns : goal.returns
returns c =
    let whole : IfOk c.format.result (λ text. string_bytes text ≡ placed_head c.args.name.now c.args.place.now c.args.fault.format.now c.args.fault.number c.args.fault.name.now ++ c.args.rest.now) =
    rw (← placed_pieces c.args.name.now c.args.place.now c.args.fault.format.now c.args.fault.number c.args.fault.name.now c.args.rest.now) (search rules) in
    IfOk-weaker c.format.result _ _ (λ text is. begins (string_bytes text) _ c.args.rest.now is) whole
