use Rattle.std.proofs.Common.{◌∙◌, ◌++◌, ℕ, ap, string_bytes}
use Rattle.racp_charts.specs.Pictures.{picture_height, plan_begin, title_element}
use Rattle.racp_charts.specs.PictureParts.{picture_begin}
use Rattle.racp_charts.proofs.Pieces.{in_two}
use Rattle.racp_charts.proofs.plan_picture.push_opening.Goals as goal

pub returns : goal.returns
unfolding plan_begin
returns c =
    in_two (string_bytes c.args.text.now) (picture_begin 0 1000 (picture_height c.args.drawing.now)) (title_element c.args.drawing.now.calendar c.args.drawing.now.cost c.args.drawing.now.deadline) (c.in_ok-push_begin.ensures ∙ ap (λ (h : ℕ). string_bytes c.args.text.now ++ picture_begin 0 1000 h) c.height.ensures) c.in_ok-push_title.ensures
