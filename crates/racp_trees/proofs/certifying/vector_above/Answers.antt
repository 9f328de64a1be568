use Rattle.std.proofs.Common.{◌≡◌, ◌∙◌, ℕ, List, arith, length, ap}
use Rattle.racp_trees.proofs.Boxes.{written_over}
use Rattle.racp_trees.proofs.certifying.vector_above.Goals as goal

pub raise_all-requires-clause-vector : goal.raise_all-requires-clause-vector
raise_all-requires-clause-vector c = ap (λ (xs : List ℕ). length xs) c.deref_mut.ensures.value ∙ c.requires.low

pub returns : goal.returns
returns c =
    let long : length c.raise_all.new.vector ≡ length c.args.low.items = c.raise_all.ensures ∙ ap (λ (xs : List ℕ). length xs) c.deref_mut.ensures.value in
    ap (λ (xs : List ℕ). length xs) (written_over c.args.low.len c.raise_all.new.vector c.args.low.items (omega (arith, c.args.low.ok.0)) long) ∙ (long ∙ c.requires.low)
