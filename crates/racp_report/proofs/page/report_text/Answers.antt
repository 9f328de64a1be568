use Rattle.std.proofs.Common.{string_bytes}
use Rattle.racp_report.specs.Pages.{body_of, opening_element}
use Rattle.racp_report.proofs.Pieces.{with_two}
use Rattle.racp_report.proofs.page.report_text.Goals as goal

pub returns : goal.returns
returns c =
    let report = c.args.report.now in
    with_two (string_bytes c.new-text.result) (opening_element report.plan) _ _ (body_of report) c.new-text.ensures.bytes c.in_ok-push_opening.ensures c.in_ok-push_str.ensures.bytes c.in_ok-push_str-2.ensures.bytes c.in_ok-push_body.ensures
