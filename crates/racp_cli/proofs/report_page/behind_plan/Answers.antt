use Rattle.std.proofs.Common.{◌≡◌, rules}
use Rattle.racp_whatif.specs.Lines.{base_line}
use Rattle.racp_cli.proofs.Begun.{are_behind}
use Rattle.racp_cli.proofs.report_page.behind_plan.Goals as goal

pub returns : goal.returns
returns c =
    let is : c.as_str.result.now ≡ base_line c.args.found.now.plan = search rules in
    are_behind c.args.found.now.plan c.as_str.result.now c.args.changes.now c.strip_prefix.result is c.strip_prefix.ensures.cases
