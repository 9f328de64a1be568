use Rattle.std.proofs.Common.{◌∙◌, ◌++◌, ℕ, ap, codes, string_bytes}
use Rattle.racp_charts.specs.Drawings.{name_left, phase_element, phase_middle}
use Rattle.racp_charts.specs.Elements.{text_within}
use Rattle.racp_charts.specs.Texts.{escaped}
use Rattle.racp_charts.proofs.Pieces.{in_six}
use Rattle.racp_charts.proofs.row.push_phase.Goals as goal

pub returns : goal.returns
unfolding phase_element
returns c =
    in_six (string_bytes c.args.text.now) (codes "<g><title>") (escaped c.args.title.now) (codes "</title>") (phase_middle (name_left c.args.depth) c.args.top) (text_within 100 c.args.title.now) (codes "</text></g>\n") c.in_ok-push_str.ensures.bytes c.in_ok-push_escaped.ensures c.in_ok-push_str-2.ensures.bytes (c.in_ok-push_phase_middle.ensures ∙ ap (λ (n : ℕ). string_bytes c.push_str-2.new.self ++ phase_middle n c.args.top) c.left_of.ensures) c.in_ok-push_within.ensures c.in_ok-push_str-3.ensures.bytes
