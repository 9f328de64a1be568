use Rattle.std.proofs.Common.{◌≡◌, None, min, arith}
use Rattle.racp_model.specs.Terms.{cost}
use Rattle.racp_by_questions.proofs.Cheapest.{told-least}
use Rattle.racp_by_questions.proofs.Halves.{cut_some, enough_not_before, refuted_no, searched-one, searched-refuted, widest_none, widest_some}
use Rattle.racp_by_questions.proofs.halving.cut_and_ask.Goals as goal

pub hear-requires : goal.hear-requires
hear-requires g c =
    let low : c.cost_of.result ≡ cost c.args.subject.now.order.now c.args.span.now.low = cc (c.cost_of.ensures, c.as_slice.ensures) in
    let least : c.min-least.result ≡ min c.cost_of.result c.args.rest = c.min-least.ensures in
    c.requires.heard c.min-least.result
    (told-least c.args.subject.now c.requires.subject c.args.span.now c.requires.span c.args.rest c.requires.rest c.min-least.result
    (omega (arith, least, low)) (omega (arith, least)))

pub returns-then-is_refuted-clause-left : goal.returns-then-is_refuted-clause-left
returns-then-is_refuted-clause-left g c =
    let s = c.args.subject.now in
    let span = c.args.span.now in
    let is_cut = cut_some s.net.now s.order.now span.low span.high c.args.known.now.best c.in_ok-high.field-0 c.in-Some.high c.in_ok-high.ensures c.in-Some.is in
    searched-refuted s c.requires.subject span c.requires.span c.args.known.now c.requires.known c.in-Some.high is_cut c.ask_about.new.known c.in_ok-told.ensures.better
    (refuted_no s c.in-Some.high c.most_nodes-most.result c.ask_about.new.known.best c.in_ok-told.told c.is_refuted.result c.in_ok-told.ensures.told c.is_refuted.ensures c.if-is_refuted.true)

pub returns-in_default-lane-clause-left : goal.returns-in_default-lane-clause-left
returns-in_default-lane-clause-left g c =
    let s = c.args.subject.now in
    let span = c.args.span.now in
    let is_cut = cut_some s.net.now s.order.now span.low span.high c.args.known.now.best c.in_ok-high.field-0 c.in-Some.high c.in_ok-high.ensures c.in-Some.is in
    let none : c.widest-lane.result ≡ None = c.in_default-lane.is in
    searched-one s c.requires.subject span c.requires.span c.args.known.now c.requires.known c.in-Some.high is_cut c.ask_about.new.known c.in_ok-told.ensures.better
    (widest_none span.low c.in-Some.high c.widest-lane.result c.widest-lane.ensures none)
    (enough_not_before s c.in-Some.high c.most_nodes-most.result c.ask_about.new.known.best c.in_ok-told.told c.is_refuted.result c.in_ok-told.ensures.told c.is_refuted.ensures c.if-is_refuted.false (c.most_nodes-most.ensures none))

pub returns-clause-left : goal.returns-clause-left
returns-clause-left g c =
    let s = c.args.subject.now in
    let span = c.args.span.now in
    let is_cut = cut_some s.net.now s.order.now span.low span.high c.args.known.now.best c.in_ok-high.field-0 c.in-Some.high c.in_ok-high.ensures c.in-Some.is in
    let lane = widest_some span.low c.in-Some.high c.widest-lane.result c.in-Some-lane.k c.widest-lane.ensures c.in-Some-lane.is in
    record { better = c.in_ok-told.ensures.better; cut = is_cut; resource = lane.0; several = lane.1 }
