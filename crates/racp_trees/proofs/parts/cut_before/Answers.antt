use Rattle.std.proofs.Common.{◌≡◌, ◌∙◌, ℕ, List, ap, arith, length, rules, subst, sym}
use Rattle.racp_trees.specs.Enough.{IsCutBefore}
use Rattle.racp_trees.proofs.Boxes.{written_over}
use Rattle.racp_trees.proofs.parts.cut_before.Goals as goal

pub returns : goal.returns
returns c =
    let old : List ℕ = c.in_ok-copy.copy.items in
    let new : List ℕ = c.cut.new.numbers in
    let same : old ≡ c.args.numbers.now = search rules in
    let long : length new ≡ length old = c.cut.ensures.places ∙ ap (λ (xs : List ℕ). length xs) c.deref_mut.ensures.value in
    subst (λ (xs : List ℕ). IsCutBefore c.args.numbers.now c.args.most.now c.args.end xs) (sym (written_over c.in_ok-copy.copy.len new old (omega (arith, c.in_ok-copy.copy.ok.0)) long))
    (subst (λ (xs : List ℕ). IsCutBefore xs c.args.most.now c.args.end new) (c.deref_mut.ensures.value ∙ same) c.cut.ensures)
