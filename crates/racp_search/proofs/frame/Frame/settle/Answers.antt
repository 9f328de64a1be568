use Rattle.std.proofs.Common.{◌≡◌, ◌∙◌, false, true, ap, sym, subst}
use Rattle.racp_search.specs.DepthFirst.{SearchFrame, IsEachAlone, IsGoneOn}
use Rattle.racp_search.proofs.Going.{frame_with}
use Rattle.racp_search.proofs.Settling.{frame-settled, gone-settled}
use Rattle.racp_search.proofs.frame.Frame.settle.Goals as goal

pub invariant_of-self : goal.invariant_of-self
invariant_of-self g c =
    let f = c.self.inside in
    let new = c.in_ok-self-inside.field-0.items in
    let old : c.args.self.now ≡ frame_with f.node f.active f.children.items f.last.items true = sym (ap (frame_with f.node f.active f.children.items f.last.items) (sym (ap (λ (x : SearchFrame). x.more) c.self.view_is ∙ c.requires.more)) ∙ c.self.view_is) in
    let each : IsEachAlone g.N.OfNetwork.network c.args.subject.now.capacities (frame_with f.node f.active f.children.items f.last.items true) new = subst (λ (x : SearchFrame). IsEachAlone g.N.OfNetwork.network c.args.subject.now.capacities x new) old c.in_ok-self-inside.ensures in
    frame-settled g.N.OfNetwork.network c.args.subject.now.capacities f.node f.active f.last.items f.children.items new c.self.invariant.active c.self.invariant.last each

pub returns-clause-further : goal.returns-clause-further
returns-clause-further g c =
    let f = c.self.inside in
    let new = c.in_ok-self-inside.field-0.items in
    let old : c.args.self.now ≡ frame_with f.node f.active f.children.items f.last.items true = sym (ap (frame_with f.node f.active f.children.items f.last.items) (sym (ap (λ (x : SearchFrame). x.more) c.self.view_is ∙ c.requires.more)) ∙ c.self.view_is) in
    let each : IsEachAlone g.N.OfNetwork.network c.args.subject.now.capacities (frame_with f.node f.active f.children.items f.last.items true) new = subst (λ (x : SearchFrame). IsEachAlone g.N.OfNetwork.network c.args.subject.now.capacities x new) old c.in_ok-self-inside.ensures in
    subst (λ (x : SearchFrame). IsGoneOn g.N.OfNetwork.network c.args.subject.now.capacities x (frame_with f.node f.active new f.last.items false)) (sym old)
    (gone-settled g.N.OfNetwork.network c.args.subject.now.capacities f.node f.active f.last.items f.children.items new c.self.invariant.active c.self.invariant.last each)
