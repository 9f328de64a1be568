use Rattle.std.proofs.Common.{◌∙◌, ◌++◌, List, ℕ, ap, codes, string_bytes}
use Rattle.racp_charts.specs.Pictures.{costs_begin, costs_title}
use Rattle.racp_charts.specs.PictureParts.{picture_begin}
use Rattle.racp_charts.proofs.Pieces.{in_four}
use Rattle.racp_charts.proofs.cost_picture.push_opening.Goals as goal

pub returns : goal.returns
unfolding costs_begin
returns c =
    in_four (string_bytes c.args.text.now) (picture_begin 190 810 334) (codes "<title>") (costs_title c.args.calendar) (codes "</title>\n") c.in_ok-push_begin.ensures c.in_ok-push_str.ensures.bytes (c.in_ok-push_str-2.ensures.bytes ∙ ap (λ (t : List ℕ). string_bytes c.push_str.new.self ++ t) c.title.ensures) c.in_ok-push_str-3.ensures.bytes
