use Rattle.std.proofs.Common.{◌≡◌, ◌∙◌, ap, map, rules, sym}
use Rattle.std.proofs.lemmas.Result.{IfOk-weaker}
use Rattle.std.proofs.lemmas.Simd.{map-map}
use Rattle.racp_json.specs.Curves.{step_in}
use Rattle.racp_json.proofs.curve.steps_of.Goals as goal

pub returns : goal.returns
returns c =
    let rows : c.deref.result.now ≡ c.in_ok-rows.rows.items = search rules in
    IfOk-weaker c.steps_in.result _ _ (λ steps are. are ∙ ap (map (λ row. step_in row.items)) rows
    ∙ sym (map-map step_in (λ row. row.items) c.in_ok-rows.rows.items) ∙ ap (map step_in) c.in_ok-rows.ensures) c.steps_in.ensures
