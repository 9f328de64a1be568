use Rattle.std.proofs.Common.{ap, subst}
use Rattle.racp_model.specs.Terms.{Terms}
use Rattle.racp_root.specs.Openings.{IsOpening}
use Rattle.racp_reference.specs.Choices.{IsCheapest}
use Rattle.racp_reference.proofs.Planning.{plan_is, over_ceilings}
use Rattle.racp_reference.proofs.plan.plan_by_definition.Goals as goal

pub returns-in_default : goal.returns-in_default
returns-in_default c =
    let net = c.args.net.now in
    let terms = c.args.order.now in
    let root = subst (IsOpening net terms) c.in-Root.is c.in_ok-critical.ensures in
    let none = subst (IsCheapest net terms c.in-Root.window c.as_slice.result.now) c.in_default.is c.in_ok-choice.ensures in
    over_ceilings net terms c.in-Root.window c.in_ok-most.most c.requires root.window_is c.in_ok-most.ensures (rw (← c.as_slice.ensures) none)

pub returns : goal.returns
returns c =
    let net = c.args.net.now in
    let terms = c.args.order.now in
    let root = subst (IsOpening net terms) c.in-Root.is c.in_ok-critical.ensures in
    let some = subst (IsCheapest net terms c.in-Root.window c.as_slice.result.now) c.in-Some.is c.in_ok-choice.ensures in
    record {
      is_plan = plan_is net terms c.in-Root.window c.in_ok-most.most c.in-Some.choice c.requires root.window_is c.in_ok-most.ensures (rw (← c.as_slice.ensures) some);
      deadline = ap (λ (t : Terms). t.deadline) c.order.view_is;
      cost = some.1.cost;
      critical = root.length;
    }
