use Rattle.std.proofs.Common.{[], codes, string_bytes}
use Rattle.racp_export.specs.MsProject.{rows_from, tasks_text}
use Rattle.racp_export.specs.Told.{told_by}
use Rattle.racp_export.proofs.Pieces.{in_three}
use Rattle.racp_export.proofs.ms_project.push_tasks.Goals as goal

pub returns : goal.returns
unfolding tasks_text
returns c =
    in_three (string_bytes c.args.text.now) (codes " <Tasks>\n") (rows_from (told_by c.args.ground.now) 1 [] c.args.rows.now) (codes " </Tasks>\n") c.in_ok-push_str.ensures.bytes c.in_ok-push_rows.ensures c.in_ok-push_str-2.ensures.bytes
