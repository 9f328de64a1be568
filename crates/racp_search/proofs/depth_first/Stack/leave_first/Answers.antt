use Rattle.std.proofs.Common.{subst}
use Rattle.racp_search.specs.Steps.{HasFirst}
use Rattle.racp_search.proofs.Leaving.{some_first, first_left}
use Rattle.racp_search.proofs.depth_first.Stack.leave_first.Goals as goal

pub take_first-frame-requires : goal.take_first-frame-requires
take_first-frame-requires g c = some_first c.args.subject.now.capacities c.args.self.now.frames.items c.requires

pub into_rest-requires : goal.into_rest-requires
into_rest-requires g c = subst (HasFirst c.args.subject.now.capacities) c.take_first-frame.ensures c.requires

pub returns : goal.returns
returns g c =
    first_left g.N.OfNetwork.network c.args.subject.now.capacities c.args.self.now.frames.items c.take_first-frame.new.frames.items c.take_first-frame.result c.args.rest.now.items c.in_ok-more.more.items c.append.new.rest.items c.append.result
    c.take_first-frame.ensures c.append.ensures c.in_ok-more.ensures
