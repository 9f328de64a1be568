use Rattle.std.proofs.Common.{◌∙◌, ◌++◌, ◌-◌, string_bytes, encode_utf8, List, ℕ, ap}
use Rattle.racp_charts.specs.Elements.{cut_text}
use Rattle.racp_charts.specs.Texts.{escaped}
use Rattle.racp_show.specs.Labels.{cut}
use Rattle.racp_charts.proofs.Pieces.{in_two}
use Rattle.racp_charts.proofs.names.push_cut.Goals as goal

pub returns : goal.returns
unfolding cut_text
returns c =
    in_two (string_bytes c.args.text.now) (escaped (cut (c.args.most - 1) c.args.name.now)) (encode_utf8 8230) (c.in_ok-push_escaped.ensures ∙ ap (λ (t : List ℕ). string_bytes c.args.text.now ++ escaped t) (c.as_str.ensures.value ∙ (c.in_ok-beginning.ensures.text ∙ ap (λ (n : ℕ). cut n c.args.name.now) c.saturating_sub.ensures))) c.in_ok-push.ensures.bytes
