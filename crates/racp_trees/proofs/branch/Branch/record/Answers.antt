use Rattle.std.proofs.Common.{◌≡◌, ◌∙◌, ◌≤◌, ℕ, List, All, length, slice_index, ap, arith, subst, sym}
use Rattle.racp_model.specs.Limits.{most_bound, most_early}
use Rattle.racp_trees.specs.Records.{IsRecordOf}
use Rattle.racp_trees.specs.Rows.{early_of}
use Rattle.racp_trees.proofs.Branching.{early_again}
use Rattle.racp_trees.proofs.Covered.{node_at}
use Rattle.racp_trees.proofs.branch.Branch.record.Goals as goal

pub early-requires-clause-places : goal.early-requires-clause-places
early-requires-clause-places c = ap (λ (xs : List ℕ). length xs) (c.deref.ensures.value ∙ c.in_ok-lower.ensures) ∙ c.requires.branch.places

pub early-requires-clause-small : goal.early-requires-clause-small
early-requires-clause-small c = subst (λ (xs : List ℕ). All (λ x. x ≤ most_bound) xs) (sym (c.deref.ensures.value ∙ c.in_ok-lower.ensures)) c.requires.branch.small

pub new-requires-clause-lower : goal.new-requires-clause-lower
new-requires-clause-lower c = ap (λ (xs : List ℕ). length xs) (c.deref-2.ensures.value ∙ c.in_ok-lower.ensures) ∙ c.requires.branch.places

pub new-requires-clause-early : goal.new-requires-clause-early
new-requires-clause-early c = c.in_ok-early.ensures.places

pub new-requires-clause-small : goal.new-requires-clause-small
new-requires-clause-small c i l =
    let same : c.in_ok-early.early ≡ early_of c.args.net.now c.args.self.now.lower =
    early_again c.args.net.now c.args.capacities.now c.args.self.now c.deref.result.now c.in_ok-early.early c.requires.branch (c.deref.ensures.value ∙ c.in_ok-lower.ensures) c.in_ok-early.ensures in
    subst (λ (xs : List ℕ). slice_index xs i ≤ most_early) (sym same) (omega (arith, c.requires.branch.below i l))

pub returns : goal.returns
returns c upper =
    let p = c.args.net.now in
    let t : ℕ = c.args.self.now.time in
    let early : List ℕ = early_of p c.args.self.now.lower in
    let same : c.in_ok-early.early ≡ early = early_again p c.args.capacities.now c.args.self.now c.deref.result.now c.in_ok-early.early c.requires.branch (c.deref.ensures.value ∙ c.in_ok-lower.ensures) c.in_ok-early.ensures in
    subst (λ (xs : List ℕ). IsRecordOf p (node_at c.args.capacities.now c.args.self.now.lower upper xs t) c.in_ok-kept.kept) same
    (subst (λ (xs : List ℕ). IsRecordOf p (node_at c.args.capacities.now xs upper c.in_ok-early.early t) c.in_ok-kept.kept) (c.deref-2.ensures.value ∙ c.in_ok-lower.ensures)
    (subst (λ (xs : List ℕ). IsRecordOf p (node_at xs c.deref-2.result.now upper c.in_ok-early.early t) c.in_ok-kept.kept) c.as_slice.ensures (c.in_ok-kept.ensures upper)))
