use Rattle.std.proofs.Common.{ℕ, List, sym, subst, ◌∙◌}
use Rattle.racp_model.specs.Window.{Bounds, IsNo}
use Rattle.racp_search.specs.DepthFirst.{IsFrameOf}
use Rattle.racp_search.proofs.Frames.{if_some, has_active}
use Rattle.racp_search.proofs.expanding.expand.Goals as goal

pub node_of-requires-clause-bounds : goal.node_of-requires-clause-bounds
node_of-requires-clause-bounds g c = c.requires.bounds

pub node_of-requires-clause-early : goal.node_of-requires-clause-early
node_of-requires-clause-early g c = c.requires.conflict.early

pub returns-then-is_some-clause-expanded : goal.returns-then-is_some-clause-expanded
returns-then-is_some-clause-expanded g c =
    let no : IsNo g.N.OfNetwork.network c.in_ok-node.node.capacities c.in_ok-node.node.window = if_some c.find.result (IsNo g.N.OfNetwork.network c.in_ok-node.node.capacities c.in_ok-node.node.window) (sym c.is_some.ensures ∙ c.if-is_some.true) c.find.ensures.refutes in
    let other : IsNo g.N.OfNetwork.network c.args.subject.now.capacities c.in_ok-node.node.window = subst (λ (xs : List ℕ). IsNo g.N.OfNetwork.network xs c.in_ok-node.node.window) c.in_ok-node.ensures.capacities no in
    subst (λ (w : Bounds). IsNo g.N.OfNetwork.network c.args.subject.now.capacities w) c.in_ok-node.ensures.window other

pub first_frame-requires-clause-active : goal.first_frame-requires-clause-active
first_frame-requires-clause-active g c =
    has_active g.N.OfNetwork.network c.in_ok-node.node c.args.subject.now.capacities c.args.starts c.args.window c.args.conflict c.question.ensures.node
    c.in_ok-node.ensures.early c.in_ok-node.ensures.capacities c.in_ok-node.ensures.window c.in_ok-node.ensures.time c.requires.conflict

pub first_frame-requires-clause-same : goal.first_frame-requires-clause-same
first_frame-requires-clause-same g c = c.in_ok-node.ensures.capacities

pub returns-clause-expanded : goal.returns-clause-expanded
returns-clause-expanded g c = subst (λ (w : Bounds). IsFrameOf g.N.OfNetwork.network c.args.subject.now.capacities w c.in_ok-first_frame.field-0) c.in_ok-node.ensures.window c.in_ok-first_frame.ensures
