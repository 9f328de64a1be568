use Rattle.std.proofs.Common.{◌≡◌, ◌∙◌, arith, ap, length, sym}
use Rattle.racp_cutset.specs.Covering.{SearchNode}
use Rattle.racp_search.specs.DepthFirst.{SearchFrame, child_windows}
use Rattle.racp_search.proofs.Going.{as-many, gone-same, gone-again}
use Rattle.racp_search.proofs.frame.Frame.find_children.Goals as goal

pub loop-self-init : goal.loop-self-init
loop-self-init g c = gone-same g.N.OfNetwork.network c.args.subject.now.capacities c.args.self.now

pub find_child-requires-clause-same : goal.find_child-requires-clause-same
find_child-requires-clause-same g c = ap (λ (v : SearchNode). v.capacities) c.loop-self.invariant.node ∙ c.requires

pub loop-self-smaller : goal.loop-self-smaller
loop-self-smaller g c = c.in_ok-find_child.ensures.fewer

pub loop-self-preserved : goal.loop-self-preserved
loop-self-preserved g c = gone-again g.N.OfNetwork.network c.args.subject.now.capacities c.args.self.now c.loop-self.self c.find_child.new.self c.loop-self.invariant c.in_ok-find_child.ensures.further

pub returns-else-len-enough-clause-further : goal.returns-else-len-enough-clause-further
returns-else-len-enough-clause-further g c = c.loop-self.invariant

pub returns-after-loop-self-clause-further : goal.returns-after-loop-self-clause-further
returns-after-loop-self-clause-further g c = c.loop-self.invariant

pub find_child-requires-clause-more : goal.find_child-requires-clause-more
find_child-requires-clause-more g c = sym (ap (λ (f : SearchFrame). f.more) c.self.view_is) ∙ c.loop-self-test.true

pub returns-after-loop-self-clause-enough : goal.returns-after-loop-self-clause-enough
returns-after-loop-self-clause-enough g c = λ more. absurd (cc (more, ap (λ (f : SearchFrame). f.more) c.self.view_is, c.loop-self-test.false))

pub returns-else-len-enough-clause-enough : goal.returns-else-len-enough-clause-enough
returns-else-len-enough-clause-enough g c =
    let same : length (child_windows c.self.inside.children.items) ≡ length c.loop-self.self.windows = ap (λ (f : SearchFrame). length f.windows) c.self.view_is in
    λ more. omega (arith, c.if-len-enough.false, c.len.ensures, c.self.inside.children.ok.0, as-many c.self.inside.children.items, same)
