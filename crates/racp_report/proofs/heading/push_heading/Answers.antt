use Rattle.std.proofs.Common.{string_bytes}
use Rattle.racp_report.specs.Claims.{claim_element}
use Rattle.racp_report.specs.Pages.{heading_element, lengths_element, times_element, title_element}
use Rattle.racp_report.proofs.Pieces.{in_four}
use Rattle.racp_report.proofs.heading.push_heading.Goals as goal

pub returns : goal.returns
unfolding heading_element
returns c =
    in_four (string_bytes c.args.text.now) (title_element c.args.plan.now) (times_element c.args.plan.now) (lengths_element c.args.plan.now.critical c.args.plan.now.task_count) (claim_element c.args.plan.now.cost c.args.claim) c.in_ok-push_title.ensures c.in_ok-push_times.ensures c.in_ok-push_lengths.ensures c.in_ok-push_claim.ensures
