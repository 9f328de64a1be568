use Rattle.std.proofs.Common.{◌≡◌, ◌≤◌, ℕ, List, map, min, slice_index, All, subst, sym, ap, ◌∙◌}
use Rattle.std.specs.Prelude.{IfOk}
use Rattle.racp_model.specs.Terms.{Terms, release_of}
use Rattle.racp_cpm.specs.Ends.{IsRootAnswer}
use Rattle.racp_cpm.proofs.lemmas.Openings.{due-is, due-small}
use Rattle.racp_derivations.proofs.root.window_of.Goals as goal

pub root-requires-clause-due_small : goal.root-requires-clause-due_small
root-requires-clause-due_small c =
    let P : List ℕ → Type 0 = λ due. All (λ time. time ≤ 10000000) due in
    let due : c.as_slice-2.result.now ≡ map (λ time. min time c.args.order.now.deadline) c.args.order.now.due = c.as_slice-2.ensures.value ∙ c.in_ok-due.ensures in
    subst P (sym due) (due-small c.args.order.now.deadline 10000000 c.args.order.now.due c.requires.deadline)

pub returns : goal.returns
returns c =
    let net = c.args.net.now in
    let terms = c.args.order.now in
    let release : c.as_slice.result.now ≡ terms.release = c.as_slice.ensures.value ∙ ap (λ (t : Terms). t.release) c.order.view_is in
    let due : c.as_slice-2.result.now ≡ map (λ time. min time terms.deadline) terms.due = c.as_slice-2.ensures.value ∙ c.in_ok-due.ensures in
    let by-release : IfOk c.root.result (IsRootAnswer net (release_of terms) (slice_index c.as_slice-2.result.now)) =
    subst (λ (xs : List ℕ). IfOk c.root.result (IsRootAnswer net (slice_index xs) (slice_index c.as_slice-2.result.now))) release c.root.ensures in
    subst (λ (times : ℕ → ℕ). IfOk c.root.result (IsRootAnswer net (release_of terms) times)) (due-is terms c.as_slice-2.result.now due) by-release
