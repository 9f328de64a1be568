use Rattle.std.proofs.Common.{◌≡◌, ◌∙◌, Bool, false, ap, sym, subst}
use Rattle.racp_search.specs.DepthFirst.{SearchFrame, IsFrame, IsGoneOn, IsRestOfFrame, child_windows}
use Rattle.racp_search.proofs.Going.{frame_with}
use Rattle.racp_search.proofs.Resting.{rest-of_gone, rest-is_children, if_ok_more}
use Rattle.racp_search.proofs.frame.Frame.into_rest.Goals as goal

pub returns-then-self : goal.returns-then-self
returns-then-self g c =
    let old = c.args.self in
    let new = c.find_children.new.self in
    if_ok_more c.windows_of.result (λ rest. rest.items ≡ child_windows c.in_ok-rest.field-0.items) (λ rest. IsRestOfFrame g.N.OfNetwork.network c.args.subject.now.capacities old rest.items)
    (λ rest e. rest-of_gone g.N.OfNetwork.network c.args.subject.now.capacities old new rest.items c.in_default.ensures.further (subst (IsRestOfFrame g.N.OfNetwork.network c.args.subject.now.capacities new) (sym e) c.in_ok-rest.ensures.rest)) c.windows_of.ensures

pub returns : goal.returns
returns g c =
    let f = c.self-2.inside in
    let none : frame_with f.node f.active f.children.items f.last.items false ≡ c.find_children.new.self = ap (λ (b : Bool). frame_with f.node f.active f.children.items f.last.items b) (sym c.if-self.false) ∙ c.self-2.view_is in
    let gone : IsGoneOn g.N.OfNetwork.network c.args.subject.now.capacities c.args.self (frame_with f.node f.active f.children.items f.last.items false) = subst (λ (x : SearchFrame). IsGoneOn g.N.OfNetwork.network c.args.subject.now.capacities c.args.self x) (sym none) c.in_default.ensures.further in
    let is : IsFrame g.N.OfNetwork.network (frame_with f.node f.active f.children.items f.last.items false) = subst (λ (b : Bool). IsFrame g.N.OfNetwork.network (frame_with f.node f.active f.children.items f.last.items b)) c.if-self.false c.self-2.invariant in
    let same : child_windows c.into_children.result.items ≡ child_windows f.children.items = c.into_children.ensures.windows ∙ sym (ap (λ (x : SearchFrame). x.windows) c.self-2.view_is) in
    if_ok_more c.windows_of-2.result (λ rest. rest.items ≡ child_windows c.into_children.result.items) (λ rest. IsRestOfFrame g.N.OfNetwork.network c.args.subject.now.capacities c.args.self rest.items)
    (λ rest e. rest-of_gone g.N.OfNetwork.network c.args.subject.now.capacities c.args.self (frame_with f.node f.active f.children.items f.last.items false) rest.items gone
    (rest-is_children g.N.OfNetwork.network c.args.subject.now.capacities f.node f.active f.last.items f.children.items rest.items is (e ∙ same))) c.windows_of-2.ensures
