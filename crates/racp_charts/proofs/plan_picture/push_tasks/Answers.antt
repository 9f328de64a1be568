use Rattle.std.proofs.Common.{codes, string_bytes}
use Rattle.racp_charts.specs.Drawings.{frame_element}
use Rattle.racp_charts.specs.Links.{links_element}
use Rattle.racp_charts.specs.Pictures.{rows_from, tasks_element}
use Rattle.racp_charts.specs.PictureParts.{group_begin}
use Rattle.racp_charts.proofs.Pieces.{in_five}
use Rattle.racp_charts.proofs.plan_picture.push_tasks.Goals as goal

pub returns : goal.returns
unfolding tasks_element
returns c =
    in_five (string_bytes c.args.text.now) (group_begin 56) (frame_element c.args.span c.args.bottom) (rows_from c.args.span 0 c.args.rows.now) (links_element c.args.has_links c.args.span c.args.rows.now) (codes "</g>\n") c.in_ok-push_group.ensures c.in_ok-push_frame.ensures c.in_ok-push_rows.ensures c.in_ok-push_links.ensures c.in_ok-push_str.ensures.bytes
