use Rattle.std.proofs.Common.{◌≡◌, ℕ, List, IfOk, string_bytes, subst, rules}
use Rattle.std.specs.Io.{StartsWith}
use Rattle.racp_explain.specs.Causes.{line_place, placed_head}
use Rattle.racp_explain.proofs.placing.line_text.Goals as goal

pub returns : goal.returns
returns c =
    let place_is : c.as_str.result.now ≡ line_place c.args.line = search rules in
    subst (λ (place : List ℕ). IfOk c.placed.result (λ text. StartsWith (string_bytes text) (placed_head c.args.name.now place c.args.fault.format.now c.args.fault.number c.args.fault.name.now))) place_is c.placed.ensures
