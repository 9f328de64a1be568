use Rattle.std.proofs.Common.{codes, string_bytes}
use Rattle.racp_report.specs.Claims.{checked_text, claim_element, shown_text}
use Rattle.racp_report.proofs.Pieces.{in_three}
use Rattle.racp_report.proofs.claim.push_claim.Goals as goal

pub returns : goal.returns
unfolding claim_element
returns c =
    in_three (string_bytes c.args.text.now) checked_text (shown_text c.args.cost c.args.claim) (codes "</p>\n") c.in_ok-push_checked.ensures c.in_ok-push_shown.ensures c.in_ok-push_str.ensures.bytes
