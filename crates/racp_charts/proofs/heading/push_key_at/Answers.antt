use Rattle.std.proofs.Common.{codes, string_bytes}
use Rattle.racp_charts.specs.Pictures.{key_at, key_element}
use Rattle.racp_charts.specs.PictureParts.{group_begin}
use Rattle.racp_charts.proofs.Pieces.{in_three}
use Rattle.racp_charts.proofs.heading.push_key_at.Goals as goal

pub returns : goal.returns
unfolding key_at
returns c =
    in_three (string_bytes c.args.text.now) (group_begin c.args.top) (key_element) (codes "</g>\n") c.in_ok-push_group.ensures c.in_ok-push_key.ensures c.in_ok-push_str.ensures.bytes
