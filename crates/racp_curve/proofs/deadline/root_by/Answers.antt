use Rattle.std.proofs.Common.{sym, subst}
use Rattle.racp_model.specs.Terms.{Terms, AreTermsOf}
use Rattle.racp_root.specs.Openings.{IsOpening}
use Rattle.racp_curve.specs.Curves.{order_by}
use Rattle.racp_curve.proofs.Deadlines.{terms_by}
use Rattle.racp_curve.proofs.Reasons.{opening_long}
use Rattle.racp_curve.proofs.deadline.root_by.Goals as goal

pub opening_of-requires : goal.opening_of-requires
opening_of-requires c = subst (AreTermsOf c.args.ground.now.net.now) (sym c.in_ok-other.ensures) (terms_by c.args.ground.now.net.now c.args.ground.now.order.now c.args.deadline c.requires c.args.ground.now.terms)

pub returns-in-TooLong : goal.returns-in-TooLong
returns-in-TooLong c =
    let net = c.args.ground.now.net.now in
    let terms = order_by c.args.deadline c.args.ground.now.order.now in
    let is_opening = subst (λ (t : Terms). IsOpening net t c.in_ok-window.field-0) c.in_ok-other.ensures c.in_ok-window.ensures in
    opening_long net terms c.job_count.ensures.sound c.in_ok-window.field-0 c.in-TooLong.critical is_opening c.in-TooLong.is
