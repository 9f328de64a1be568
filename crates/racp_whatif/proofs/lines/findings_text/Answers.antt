use Rattle.racp_whatif.proofs.Listing.{in_text}
use Rattle.racp_whatif.proofs.lines.findings_text.Goals as goal

pub returns : goal.returns
returns c =
    in_text c.args.called.now.names.now c.args.called.now.jobs c.args.base.now c.args.findings.now c.in_ok-text.ensures c.in_ok-push_findings.ensures c.in_ok-push_str.ensures.bytes
