use Rattle.std.proofs.Common.{codes, string_bytes}
use Rattle.racp_charts.specs.Pictures.{plan_title}
use Rattle.racp_report.specs.Pages.{title_element}
use Rattle.racp_report.proofs.Pieces.{in_three}
use Rattle.racp_report.proofs.heading.push_title.Goals as goal

pub returns : goal.returns
unfolding title_element
returns c =
    let plan = c.args.plan.now in
    in_three (string_bytes c.args.text.now) (codes "</head>\n<body>\n<main>\n<h1>") (plan_title plan.calendar plan.cost plan.deadline) (codes "</h1>\n") c.in_ok-push_str.ensures.bytes c.in_ok-push_plan.ensures c.in_ok-push_str-2.ensures.bytes
