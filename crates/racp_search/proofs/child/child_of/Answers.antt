use Rattle.std.proofs.Common.{◌∙◌, ◌≤◌, ℕ, List, All, length, slice_index, arith, ap, sym, subst}
use Rattle.racp_model.specs.Project.{Project, IsNumber}
use Rattle.racp_model.specs.Window.{Bounds}
use Rattle.racp_delay.specs.Alternatives.{Splits}
use Rattle.racp_delay.specs.Branching.{IsFirstEnd}
use Rattle.racp_search.specs.Children.{IsPutOff}
use Rattle.racp_delay.proofs.lemmas.Conflicts.{conflict_numbers}
use Rattle.racp_search.proofs.Children.{gone_numbers, same_ends, end_small, child_is, child_empty}
use Rattle.racp_search.proofs.child.child_of.Goals as goal

pub first_end-requires-clause-active : goal.first_end-requires-clause-active
first_end-requires-clause-active g c =
    let v = c.args.node.now in
    let numbers : All (IsNumber (length g.N.OfNetwork.network.jobs)) c.args.active.now = conflict_numbers g.N.OfNetwork.network v.capacities v.early v.time c.args.active.now c.requires.active.conflict in
    subst (λ (p : Project). All (IsNumber (length p.jobs)) c.args.active.now) (sym c.network.ensures.named) numbers

pub overflow_cast-end : goal.overflow_cast-end
overflow_cast-end g c =
    let v = c.args.node.now in
    let split = c.requires.splits in
    let first : IsFirstEnd g.N.OfNetwork.network v.early split.0 c.in-Some.end = same_ends c.network.result.now g.N.OfNetwork.network c.early.result.now v.early c.args.active.now c.args.gone.now c.in-Some.end c.network.ensures.named c.early.ensures.starts c.in-Some.ensures split.0 split.1 in
    let small : c.in-Some.end ≤ 10010000 = end_small g.N.OfNetwork.network v.capacities v.early v.time c.args.active.now c.args.gone.now split.0 c.in-Some.end c.others_stay.ensures c.network.ensures.sound c.requires.active.conflict c.requires.active.small split.1 first in
    omega (arith, small)

pub slack_of-requires : goal.slack_of-requires
slack_of-requires g c =
    let v = c.args.node.now in
    let split = c.requires.splits in
    gone_numbers g.N.OfNetwork.network v.capacities v.early v.time c.args.active.now c.args.gone.now split.0 _ c.subsets_go.ensures
    (ap (length {A = ℕ}) c.upper.ensures.bounds ∙ (ap (λ (w : Bounds). length w.upper) c.question.ensures.window ∙ c.requires.active.node.upper)) c.requires.active.conflict split.1

pub returns-in-None-slack_of : goal.returns-in-None-slack_of
returns-in-None-slack_of g c =
    let v = c.args.node.now in
    let split = c.requires.splits in
    let ends : (kept : List ℕ) → Splits c.args.active.now c.args.gone.now kept → IsFirstEnd g.N.OfNetwork.network v.early kept c.in-Some.end = same_ends c.network.result.now g.N.OfNetwork.network c.early.result.now v.early c.args.active.now c.args.gone.now c.in-Some.end c.network.ensures.named c.early.ensures.starts c.in-Some.ensures in
    let low = c.in-None-slack_of.ensures in
    child_empty g.N.OfNetwork.network v c.args.active.now c.args.gone.now c.requires.active split.0 c.in-Some.end c.subsets_go.ensures split.1 ends low.0 low.1
    (omega (arith, low.2, ap (λ (xs : List ℕ). slice_index xs low.0) c.upper.ensures.bounds, ap (λ (w : Bounds). slice_index w.upper low.0) c.question.ensures.window))

pub put_off-requires-clause-gone : goal.put_off-requires-clause-gone
put_off-requires-clause-gone g c =
    let v = c.args.node.now in
    let split = c.requires.splits in
    gone_numbers g.N.OfNetwork.network v.capacities v.early v.time c.args.active.now c.args.gone.now split.0 _ c.subsets_go.ensures
    (ap (λ (w : Bounds). length w.lower) c.question.ensures.window ∙ c.requires.active.node.lower) c.requires.active.conflict split.1

pub put_off-requires-clause-end : goal.put_off-requires-clause-end
put_off-requires-clause-end g c =
    let v = c.args.node.now in
    let split = c.requires.splits in
    let first : IsFirstEnd g.N.OfNetwork.network v.early split.0 c.in-Some.end = same_ends c.network.result.now g.N.OfNetwork.network c.early.result.now v.early c.args.active.now c.args.gone.now c.in-Some.end c.network.ensures.named c.early.ensures.starts c.in-Some.ensures split.0 split.1 in
    let small : c.in-Some.end ≤ 10010000 = end_small g.N.OfNetwork.network v.capacities v.early v.time c.args.active.now c.args.gone.now split.0 c.in-Some.end c.others_stay.ensures c.network.ensures.sound c.requires.active.conflict c.requires.active.small split.1 first in
    omega (arith, small)

pub returns : goal.returns
returns g c =
    let v = c.args.node.now in
    let split = c.requires.splits in
    let ends : (kept : List ℕ) → Splits c.args.active.now c.args.gone.now kept → IsFirstEnd g.N.OfNetwork.network v.early kept c.in-Some.end = same_ends c.network.result.now g.N.OfNetwork.network c.early.result.now v.early c.args.active.now c.args.gone.now c.in-Some.end c.network.ensures.named c.early.ensures.starts c.in-Some.ensures in
    let off : IsPutOff v.window c.args.gone.now c.in-Some.end c.in_ok-window.window = subst (λ (w : Bounds). IsPutOff w c.args.gone.now c.in-Some.end c.in_ok-window.window) c.question.ensures.window c.in_ok-window.ensures in
    child_is g.N.OfNetwork.network v c.args.active.now c.args.gone.now c.requires.active split.0 c.in-Some.end c.in_ok-window.window c.child_is_inside.ensures c.child_is_higher.ensures c.no_conflict_before.ensures split.1 c.requires.some ends off
