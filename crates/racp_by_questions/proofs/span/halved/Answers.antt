use Rattle.std.proofs.Common.{◌≡◌, ◌∙◌, ◌≤◌, ◌<◌, ℕ, List, ap, set, slice_index, subst}
use Rattle.racp_by_questions.proofs.span.halved.Goals as goal

pub returns : goal.returns
returns c =
    let middle = c.middle_of-middle.result in
    let high : c.with_units.result ≡ set c.args.high c.args.k middle = c.with_units.ensures ∙ ap (λ (xs : List ℕ). set xs c.args.k middle) c.in_ok-copy-2.ensures in
    record {
      middle = middle;
      from = subst (λ (xs : List ℕ). slice_index xs c.args.k ≤ middle) c.as_slice.ensures c.middle_of-middle.ensures.from;
      to = subst (λ (xs : List ℕ). middle < slice_index xs c.args.k) c.as_slice-2.ensures c.middle_of-middle.ensures.to;
      below = λ i. record { low = c.in_ok-copy.ensures i; high = high i };
      above = λ i. record { low = c.with_units-2.ensures i; high = c.args.high };
    }
