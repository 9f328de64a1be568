use Rattle.std.proofs.Common.{codes, string_bytes}
use Rattle.racp_export.specs.MsProject.{resources_before, resources_text}
use Rattle.racp_export.specs.Told.{told_by}
use Rattle.racp_export.proofs.Pieces.{in_three}
use Rattle.racp_export.proofs.ms_project.push_resources.Goals as goal

pub returns : goal.returns
unfolding resources_text
returns c =
    in_three (string_bytes c.args.text.now) (codes " <Resources>\n") (resources_before (told_by c.args.ground.now) c.args.ground.now.net.now.resources) (codes " </Resources>\n") c.in_ok-push_str.ensures.bytes c.in_ok-push_all_resources.ensures c.in_ok-push_str-2.ensures.bytes
