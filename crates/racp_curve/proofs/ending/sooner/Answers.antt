use Rattle.racp_curve.specs.Curves.{order_by}
use Rattle.racp_curve.proofs.Asking.{root_some, root_bounds, found_places, found_end, found_sooner, none_sooner, not_open}
use Rattle.racp_curve.proofs.ending.sooner.Goals as goal

pub ask-requires-clause-window : goal.ask-requires-clause-window
ask-requires-clause-window g c =
    let terms = order_by c.args.deadline c.args.ground.now.order.now in
    let root = root_some c.args.ground.now.net.now terms c.in_ok-window.field-0 c.in-Some-2.window c.in_ok-window.ensures c.in-Some-2.is in
    root_bounds c.args.ground.now.net.now c.args.ground.now.order.now c.args.deadline c.in-Some-2.window c.args.capacities.now root

pub end_of-requires-clause-places : goal.end_of-requires-clause-places
end_of-requires-clause-places g c =
    let terms = order_by c.args.deadline c.args.ground.now.order.now in
    let root = root_some c.args.ground.now.net.now terms c.in_ok-window.field-0 c.in-Some-2.window c.in_ok-window.ensures c.in-Some-2.is in
    found_places c.args.ground.now.net.now c.args.ground.now.order.now c.args.deadline c.in-Some-2.window c.args.capacities.now root c.in_ok-starts.field-0 c.in_ok-starts.ensures.probed c.in-Yes.starts c.in-Yes.is

pub end_of-requires-clause-ends : goal.end_of-requires-clause-ends
end_of-requires-clause-ends g c =
    let terms = order_by c.args.deadline c.args.ground.now.order.now in
    let root = root_some c.args.ground.now.net.now terms c.in_ok-window.field-0 c.in-Some-2.window c.in_ok-window.ensures c.in-Some-2.is in
    found_end c.args.ground.now.net.now c.args.ground.now.order.now c.args.deadline c.in-Some-2.window c.args.capacities.now root c.in_ok-starts.field-0 c.in_ok-starts.ensures.probed c.in-Yes.starts c.in-Yes.is

pub unreachable-requires : goal.unreachable-requires
unreachable-requires g c =
    let terms = order_by c.args.deadline c.args.ground.now.order.now in
    let root = root_some c.args.ground.now.net.now terms c.in_ok-window.field-0 c.in-Some-2.window c.in_ok-window.ensures c.in-Some-2.is in
    not_open c.args.ground.now.net.now c.args.ground.now.order.now c.args.deadline c.in-Some-2.window c.args.capacities.now root c.in_ok-starts.field-0 c.in_ok-starts.ensures.probed c.in-Open.is

pub returns-in-Yes-clause-sooner : goal.returns-in-Yes-clause-sooner
returns-in-Yes-clause-sooner g c =
    let terms = order_by c.args.deadline c.args.ground.now.order.now in
    let root = root_some c.args.ground.now.net.now terms c.in_ok-window.field-0 c.in-Some-2.window c.in_ok-window.ensures c.in-Some-2.is in
    found_sooner c.args.ground.now.net.now c.args.ground.now.order.now c.args.deadline c.in-Some-2.window c.args.capacities.now root c.in_ok-starts.field-0 c.in_ok-starts.ensures.probed c.in-Yes.starts c.end_of.result
    c.requires.places c.requires.ceilings c.in-Yes.is c.end_of.ensures.within c.end_of.ensures.ends

pub returns-in-No-clause-sooner : goal.returns-in-No-clause-sooner
returns-in-No-clause-sooner g c =
    let terms = order_by c.args.deadline c.args.ground.now.order.now in
    let root = root_some c.args.ground.now.net.now terms c.in_ok-window.field-0 c.in-Some-2.window c.in_ok-window.ensures c.in-Some-2.is in
    none_sooner c.args.ground.now.net.now c.args.ground.now.order.now c.args.deadline c.in-Some-2.window c.args.capacities.now root c.in_ok-starts.field-0 c.in_ok-starts.ensures.probed c.in-No.is
