use Rattle.std.proofs.Common.{◌≢◌, [], List, ℕ, All, length, refl, sym, subst}
use Rattle.racp_model.specs.Project.{Project, IsNumber}
use Rattle.racp_delay.specs.Alternatives.{IsMinimalDelayingAlternative}
use Rattle.racp_delay.proofs.lemmas.Conflicts.{conflict_numbers}
use Rattle.racp_search.specs.DepthFirst.{SearchFrame}
use Rattle.racp_search.proofs.Frames.{frame_of, frame-gone}
use Rattle.racp_search.proofs.expanding.first_frame.Goals as goal

pub find-requires-clause-active : goal.find-requires-clause-active
find-requires-clause-active g c =
    let v = c.args.node in
    let numbers : All (IsNumber (length g.N.OfNetwork.network.jobs)) c.args.conflict.active = conflict_numbers g.N.OfNetwork.network v.capacities v.early v.time c.args.conflict.active c.requires.active.conflict in
    subst (λ (p : Project). All (IsNumber (length p.jobs)) c.args.conflict.active) (sym c.network-net.ensures.named) numbers

pub take_all-requires-clause-some : goal.take_all-requires-clause-some
take_all-requires-clause-some g c =
    let v = c.args.node in
    let some : (gone : List ℕ) → IsMinimalDelayingAlternative g.N.OfNetwork.network v.capacities c.args.conflict.active gone → gone ≢ [] = λ gone minimal. c.some_job_goes.ensures g.N.OfNetwork.network v.capacities v.early v.time c.args.conflict.active gone c.requires.active.conflict minimal in
    subst (λ (f : SearchFrame). (gone : List ℕ) → IsMinimalDelayingAlternative g.N.OfNetwork.network f.node.capacities f.active gone → gone ≢ []) (sym c.bare_frame-frame.ensures) some

pub returns : goal.returns
returns g c =
    let is = frame_of g.N.OfNetwork.network c.args.node c.args.conflict.active c.bare_frame-frame.result c.args.subject.now.capacities c.args.node.window c.branching_loses_nothing.ensures c.some_job_goes.ensures c.requires.active c.requires.same refl c.bare_frame-frame.ensures in
    frame-gone g.N.OfNetwork.network c.args.subject.now.capacities c.args.node.window c.bare_frame-frame.result c.take_all.new.self is c.in_default-take_all.ensures

pub returns-then-not-are_few : goal.returns-then-not-are_few
returns-then-not-are_few g c =
    frame_of g.N.OfNetwork.network c.args.node c.args.conflict.active c.bare_frame.result c.args.subject.now.capacities c.args.node.window c.branching_loses_nothing.ensures c.some_job_goes.ensures c.requires.active c.requires.same refl c.bare_frame.ensures
