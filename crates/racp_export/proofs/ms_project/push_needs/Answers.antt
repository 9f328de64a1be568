use Rattle.std.proofs.Common.{codes, flat_map, string_bytes}
use Rattle.racp_export.specs.MsProject.{needs_text, row_needs}
use Rattle.racp_export.specs.Told.{told_by}
use Rattle.racp_export.proofs.Pieces.{in_three}
use Rattle.racp_export.proofs.ms_project.push_needs.Goals as goal

pub returns : goal.returns
unfolding needs_text
returns c =
    in_three (string_bytes c.args.text.now) (codes " <Assignments>\n") (flat_map (row_needs (told_by c.args.ground.now)) c.args.rows.now) (codes " </Assignments>\n</Project>\n") c.in_ok-push_str.ensures.bytes c.in_ok-push_all_needs.ensures c.in_ok-push_str-2.ensures.bytes
