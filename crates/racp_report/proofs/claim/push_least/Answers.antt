use Rattle.std.proofs.Common.{codes, string_bytes}
use Rattle.racp_report.specs.Claims.{bound_text, least_text, saving_text}
use Rattle.racp_report.proofs.Pieces.{in_three}
use Rattle.racp_report.proofs.claim.push_least.Goals as goal

pub returns : goal.returns
unfolding bound_text
returns c =
    in_three (string_bytes c.args.text.now) (least_text c.args.least) (saving_text c.args.cost c.args.least) (codes ".</strong> A certificate of that was checked, too.") c.in_ok-push_bound.ensures c.in_ok-push_saving.ensures c.in_ok-push_str.ensures.bytes
