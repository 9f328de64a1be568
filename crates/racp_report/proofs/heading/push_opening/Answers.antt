use Rattle.std.proofs.Common.{codes, string_bytes}
use Rattle.racp_charts.specs.Pictures.{plan_title}
use Rattle.racp_report.specs.Pages.{opening_element}
use Rattle.racp_report.proofs.Pieces.{in_three}
use Rattle.racp_report.proofs.heading.push_opening.Goals as goal

pub returns : goal.returns
unfolding opening_element
returns c =
    let plan = c.args.plan.now in
    in_three (string_bytes c.args.text.now) (codes "<!DOCTYPE html>\n<html lang=\"en\">\n<head>\n<meta charset=\"utf-8\">\n<meta name=\"viewport\" content=\"width=device-width, initial-scale=1\">\n<title>") (plan_title plan.calendar plan.cost plan.deadline) (codes "</title>\n") c.in_ok-push_str.ensures.bytes c.in_ok-push_plan.ensures c.in_ok-push_str-2.ensures.bytes
