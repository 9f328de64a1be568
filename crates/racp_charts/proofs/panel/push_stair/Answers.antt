use Rattle.std.proofs.Common.{◌∙◌, ◌++◌, codes, string_bytes, List, ap}
use Rattle.racp_show.specs.declared.usage.Step.{Step as Used}
use Rattle.racp_charts.specs.Drawings.{place_text, stair_element, stair_steps}
use Rattle.racp_charts.proofs.Pieces.{in_four}
use Rattle.racp_charts.proofs.panel.push_stair.Goals as goal

pub returns : goal.returns
unfolding stair_element
returns c =
    in_four (string_bytes c.args.text.now) (codes "<path class=\"used\" d=\"") (place_text 270 80) (stair_steps c.args.span c.args.choice.now.units c.args.choice.now.usage.items) (codes "H970V80Z\"/>") c.in_ok-push_str.ensures.bytes c.in_ok-push_place.ensures (c.in_ok-push_steps.ensures ∙ ap (λ (t : List Used). string_bytes c.push_place.new.text ++ stair_steps c.args.span c.args.choice.now.units t) c.as_slice.ensures.value) c.in_ok-push_str-2.ensures.bytes
