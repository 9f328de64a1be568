use Rattle.std.proofs.Common.{◌∙◌, ◌++◌, ℕ, List, ap, codes, string_bytes}
use Rattle.racp_charts.specs.Pictures.{heading_element, key_at, picture_height, plan_body, resource_panels, resources_top, tasks_bottom, tasks_element, whole}
use Rattle.racp_charts.specs.PictureParts.{page_element}
use Rattle.racp_show.specs.declared.row.Row.{Row}
use Rattle.racp_charts.specs.declared.choice.Choice.{Choice}
use Rattle.racp_charts.proofs.Pieces.{in_six}
use Rattle.racp_charts.proofs.plan_picture.push_body.Goals as goal

pub returns : goal.returns
unfolding plan_body
returns c =
    in_six (string_bytes c.args.text.now) (page_element (picture_height c.args.drawing.now)) (heading_element c.args.drawing.now) (key_at 38) (tasks_element c.args.has_links (whole c.args.drawing.now) (tasks_bottom c.args.drawing.now) c.args.drawing.now.rows.items) (resource_panels (whole c.args.drawing.now) (resources_top c.args.drawing.now) 0 c.args.drawing.now.choices.items) (codes "</svg>\n") (c.in_ok-push_page.ensures ∙ ap (λ (h : ℕ). string_bytes c.args.text.now ++ page_element h) c.height.ensures) c.in_ok-push_heading.ensures c.in_ok-push_key_at.ensures (c.in_ok-push_tasks.ensures ∙ ap (λ (t : List Row). string_bytes c.push_key_at.new.text ++ tasks_element c.args.has_links (whole c.args.drawing.now) c.bottom.result t) c.as_slice.ensures.value ∙ ap (λ (h : ℕ). string_bytes c.push_key_at.new.text ++ tasks_element c.args.has_links (whole c.args.drawing.now) h c.args.drawing.now.rows.items) c.bottom.ensures.bottom) (c.in_ok-push_resources.ensures ∙ ap (λ (t : List Choice). string_bytes c.push_tasks.new.text ++ resource_panels (whole c.args.drawing.now) c.resources.result 0 t) c.as_slice-2.ensures.value ∙ ap (λ (h : ℕ). string_bytes c.push_tasks.new.text ++ resource_panels (whole c.args.drawing.now) h 0 c.args.drawing.now.choices.items) c.resources.ensures.top) c.in_ok-push_str.ensures.bytes
