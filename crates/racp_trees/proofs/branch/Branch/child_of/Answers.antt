use Rattle.std.proofs.Common.{◌≡◌, ◌∙◌, ◌≤◌, arith, ap, List, All, ℕ, length, subst, sym}
use Rattle.racp_model.specs.Limits.{most_bound}
use Rattle.racp_delay.specs.Alternatives.{Splits}
use Rattle.racp_delay.specs.Branching.{IsFirstEnd}
use Rattle.racp_trees.specs.Branches.{IsRaised}
use Rattle.racp_trees.specs.Rows.{early_of}
use Rattle.racp_trees.proofs.Branching.{branch_numbers, early_again, end_small, lower_is}
use Rattle.racp_trees.proofs.branch.Branch.child_of.Goals as goal

pub early-requires-clause-places : goal.early-requires-clause-places
early-requires-clause-places c = ap (λ (xs : List ℕ). length xs) (c.deref.ensures.value ∙ c.in_ok-lower.ensures) ∙ c.requires.branch.places

pub early-requires-clause-small : goal.early-requires-clause-small
early-requires-clause-small c = subst (λ (xs : List ℕ). All (λ x. x ≤ most_bound) xs) (sym (c.deref.ensures.value ∙ c.in_ok-lower.ensures)) c.requires.branch.small

pub first_end-requires-clause-active : goal.first_end-requires-clause-active
first_end-requires-clause-active c = branch_numbers c.args.net.now c.args.capacities.now c.args.self.now c.requires.branch

pub overflow_cast-end : goal.overflow_cast-end
overflow_cast-end c =
    let same = early_again c.args.net.now c.args.capacities.now c.args.self.now c.deref.result.now c.in_ok-early.early c.requires.branch (c.deref.ensures.value ∙ c.in_ok-lower.ensures) c.in_ok-early.ensures in
    let first : IsFirstEnd c.args.net.now (early_of c.args.net.now c.args.self.now.lower) c.requires.gone.0 c.in-Some.end = subst (λ (xs : List ℕ). IsFirstEnd c.args.net.now xs c.requires.gone.0 c.in-Some.end) same (c.in-Some.ensures c.requires.gone.0 c.requires.gone.1) in
    omega (arith, end_small c.args.net.now c.args.capacities.now c.args.self.now c.args.gone.now c.requires.gone.0 c.in-Some.end c.requires.branch c.others_stay.ensures c.job_count.ensures.sound c.requires.gone.1 first)

pub raised-requires-clause-few : goal.raised-requires-clause-few
raised-requires-clause-few c = omega (arith, ap (λ (xs : List ℕ). length xs) (c.deref-2.ensures.value ∙ c.in_ok-lower.ensures), c.requires.branch.places, c.job_count.ensures.sound.limits.most_jobs)

pub raised-requires-clause-times : goal.raised-requires-clause-times
raised-requires-clause-times c = subst (λ (xs : List ℕ). All (λ x. x ≤ most_bound) xs) (sym (c.deref-2.ensures.value ∙ c.in_ok-lower.ensures)) c.requires.branch.small

pub raised-requires-clause-end : goal.raised-requires-clause-end
raised-requires-clause-end c =
    let same = early_again c.args.net.now c.args.capacities.now c.args.self.now c.deref.result.now c.in_ok-early.early c.requires.branch (c.deref.ensures.value ∙ c.in_ok-lower.ensures) c.in_ok-early.ensures in
    let first : IsFirstEnd c.args.net.now (early_of c.args.net.now c.args.self.now.lower) c.requires.gone.0 c.in-Some.end = subst (λ (xs : List ℕ). IsFirstEnd c.args.net.now xs c.requires.gone.0 c.in-Some.end) same (c.in-Some.ensures c.requires.gone.0 c.requires.gone.1) in
    omega (arith, end_small c.args.net.now c.args.capacities.now c.args.self.now c.args.gone.now c.requires.gone.0 c.in-Some.end c.requires.branch c.others_stay.ensures c.job_count.ensures.sound c.requires.gone.1 first)

pub returns : goal.returns
returns c =
    let same : c.in_ok-early.early ≡ early_of c.args.net.now c.args.self.now.lower = early_again c.args.net.now c.args.capacities.now c.args.self.now c.deref.result.now c.in_ok-early.early c.requires.branch (c.deref.ensures.value ∙ c.in_ok-lower.ensures) c.in_ok-early.ensures in
    lower_is c.args.net.now c.args.capacities.now c.args.self.now c.args.gone.now c.in-Some.end c.in_ok-raised.field-0.items c.requires.branch c.requires.gone.0 c.requires.gone.1
    (subst (λ (xs : List ℕ). (kept : List ℕ) → Splits c.args.self.now.active c.args.gone.now kept → IsFirstEnd c.args.net.now xs kept c.in-Some.end) same c.in-Some.ensures)
    (subst (λ (times : List ℕ). IsRaised times c.args.gone.now c.in-Some.end (length times) c.in_ok-raised.field-0.items) (c.deref-2.ensures.value ∙ c.in_ok-lower.ensures) c.in_ok-raised.ensures.raised) c.in_ok-raised.ensures.small
