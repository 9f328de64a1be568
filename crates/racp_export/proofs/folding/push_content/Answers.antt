use Rattle.std.proofs.Common.{◌∙◌, ◌++◌, List, ℕ, ap, codes, string_bytes}
use Rattle.racp_export.specs.Events.{content_line, folded}
use Rattle.racp_export.proofs.Pieces.{in_two}
use Rattle.racp_export.proofs.folding.push_content.Goals as goal

pub returns : goal.returns
unfolding content_line
returns c =
    in_two (string_bytes c.args.text.now) (folded c.args.line.now) (codes "\r\n") (c.in_ok-push_str.ensures.bytes ∙ ap (λ (t : List ℕ). string_bytes c.args.text.now ++ t) (c.as_str.ensures.value ∙ c.in_ok-lines.ensures)) c.in_ok-push_str-2.ensures.bytes
