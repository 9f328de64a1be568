use Rattle.std.proofs.Common.{codes, string_bytes}
use Rattle.racp_export.specs.Tables.{markdown_head}
use Rattle.racp_export.proofs.Pieces.{in_two}
use Rattle.racp_export.proofs.markdown.push_head.Goals as goal

pub returns : goal.returns
unfolding markdown_head
returns c =
    in_two (string_bytes c.args.text.now) (codes "| No. | Task | First day | Last day | Duration | After | Needs |\n") (codes "| ---: | --- | --- | --- | ---: | --- | --- |\n") c.in_ok-push_str.ensures.bytes c.in_ok-push_str-2.ensures.bytes
