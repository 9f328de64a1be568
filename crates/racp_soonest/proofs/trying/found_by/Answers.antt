use Rattle.std.proofs.Common.{ap, arith}
use Rattle.racp_model.specs.Terms.{Terms}
use Rattle.racp_soonest.proofs.Spans.{drafted_by, none_drafted}
use Rattle.racp_soonest.proofs.trying.found_by.Goals as goal

pub returns-in-Fits-clause-tried : goal.returns-in-Fits-clause-tried
returns-in-Fits-clause-tried g c = drafted_by c.args.part.now.net.now c.args.part.now.order.now c.in_ok-draft.field-0 c.in-Fits.draft c.end_of-end.result c.in_ok-draft.ensures c.in-Fits.is (omega (arith, c.end_of-end.ensures.within, ap (λ (terms : Terms). terms.deadline) c.order.view_is)) c.end_of-end.ensures.ends

pub returns-in-NoneFits-clause-tried : goal.returns-in-NoneFits-clause-tried
returns-in-NoneFits-clause-tried g c = none_drafted c.args.part.now.net.now c.args.part.now.order.now c.in_ok-draft.field-0 c.in_ok-draft.ensures c.in-NoneFits.is
