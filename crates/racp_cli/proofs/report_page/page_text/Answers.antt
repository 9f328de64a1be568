use Rattle.std.proofs.Common.{◌≡◌, string_bytes, rules}
use Rattle.racp_cli.proofs.report_page.page_text.Goals as goal

pub returns : goal.returns
returns c =
    let is : c.into_bytes.result.items ≡ string_bytes c.in_ok-text.text = search rules in
    record { report = c.dated-report.result; right = c.dated-report.ensures.right _ _ _ _ _ _ _ _ c.in_ok-report.ensures; told = c.dated-report.ensures.told; page = c.in_ok-text.text; written = c.in_ok-text.ensures; is = is }
