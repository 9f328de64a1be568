use Rattle.std.proofs.Common.{◌≡◌, ◌∙◌, ◌∷◌, [], ap, sym, subst}
use Rattle.racp_search.specs.Children.{IsChildFor, IsChildAnswer, IsEmptyChild}
use Rattle.racp_search.specs.DepthFirst.{SearchFrame, IsFrame, IsRestOfFrame, child_windows}
use Rattle.racp_search.proofs.Going.{windows-append}
use Rattle.racp_search.proofs.Resting.{putting-start, next-alone, putting-none, putting-more, putting-end, each-alone}
use Rattle.racp_search.proofs.frame.Frame.put_off_each.Goals as goal

pub loop-job-init : goal.loop-job-init
loop-job-init g c =
    putting-start g.N.OfNetwork.network c.self.inside.node c.self.inside.active c.into_iter-job-iterator.result (child_windows c.list-rest.result.items) (c.into_iter-job-iterator.ensures.into_iter_gives ∙ c.iter-job-items.ensures.same) (ap child_windows c.list-rest.ensures)

pub child_of-requires-clause-splits : goal.child_of-requires-clause-splits
child_of-requires-clause-splits g c =
    next-alone g.N.OfNetwork.network c.self.inside.node c.self.inside.active c.loop-job.yielded c.loop-job.job-iterator (child_windows c.loop-job.rest.items) c.in-Some.job c.next.new.self c.subsets_go.ensures c.self.invariant.active.conflict.set.rises c.loop-job.invariant c.in-Some.ensures.steps

pub loop-job-preserved-in-Continue-branch-3 : goal.loop-job-preserved-in-Continue-branch-3
loop-job-preserved-in-Continue-branch-3 g c =
    let child : IsChildFor g.N.OfNetwork.network c.self.inside.node c.self.inside.active (c.in-Some.job ∷ []) c.in-Some-2.child.window = subst (IsChildAnswer g.N.OfNetwork.network c.self.inside.node c.self.inside.active (c.in-Some.job ∷ [])) c.in-Some-2.is c.in_ok-child.ensures in
    putting-more g.N.OfNetwork.network c.self.inside.node c.self.inside.active c.loop-job.yielded c.loop-job.job-iterator (child_windows c.loop-job.rest.items) (child_windows c.push.new.self.items) c.in-Some.job c.next.new.self c.in-Some-2.child.window c.loop-job.invariant c.in-Some.ensures.steps child (ap child_windows c.in_ok-push.ensures.items ∙ windows-append c.loop-job.rest.items (c.in-Some-2.child ∷ []))

pub loop-job-preserved : goal.loop-job-preserved
loop-job-preserved g c =
    let empty : IsEmptyChild g.N.OfNetwork.network c.self.inside.node c.self.inside.active (c.in-Some.job ∷ []) = subst (IsChildAnswer g.N.OfNetwork.network c.self.inside.node c.self.inside.active (c.in-Some.job ∷ [])) c.in_default.is c.in_ok-child.ensures in
    putting-none g.N.OfNetwork.network c.self.inside.node c.self.inside.active c.loop-job.yielded c.loop-job.job-iterator (child_windows c.loop-job.rest.items) c.in-Some.job c.next.new.self c.loop-job.invariant c.in-Some.ensures.steps empty

pub returns : goal.returns
returns g c =
    let f = c.self.inside in
    let is : IsFrame g.N.OfNetwork.network c.args.self.now = subst (IsFrame g.N.OfNetwork.network) c.self.view_is c.self.invariant in
    let node : c.args.self.now.node ≡ f.node = sym (ap (λ (x : SearchFrame). x.node) c.self.view_is) in
    let rest : IsRestOfFrame g.N.OfNetwork.network c.args.subject.now.capacities c.args.self.now (child_windows c.loop-job.rest.items) =
    putting-end g.N.OfNetwork.network f.node f.active c.args.subject.now.capacities c.args.self.now c.loop-job.yielded c.loop-job.job-iterator (child_windows c.loop-job.rest.items) c.each_job_alone_covers.ensures c.each_has_child.ensures c.child_is_inside.ensures is
    node (sym (ap (λ (x : SearchFrame). x.active) c.self.view_is)) c.self.invariant.active
    (ap (λ (x : SearchFrame). x.node.capacities) c.self.view_is ∙ c.requires) c.in-None.ensures.steps.0 c.loop-job.invariant in
    each-alone g.N.OfNetwork.network c.args.subject.now.capacities c.args.self.now f.node f.active c.loop-job.yielded c.loop-job.job-iterator c.loop-job.rest.items c.iter-job-items.ensures.jobs node rest c.loop-job.invariant
