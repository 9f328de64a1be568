use Rattle.std.proofs.Common.{◌∙◌, ℕ, List, length, ap, subst, sym}
use Rattle.racp_trees.specs.Making.{HasMadeBlock}
use Rattle.racp_trees.proofs.certifying.push_next.Goals as goal

pub returns : goal.returns
returns g c made = record {
  block = c.into_vec.result;
  places = ap (λ (xs : List ℕ). length xs) (c.into_vec.ensures ∙ c.new-capacities.ensures) ∙ c.in_ok-vector_above.ensures;
  behind = c.in_ok-push.ensures.items;
  made =
      subst (λ (a : List ℕ). HasMadeBlock c.args.given.now.claim.net.now a c.args.given.now.root.now c.args.maker.now.reader c.args.text.now.items c.push_block.new.maker.reader c.push_block.new.text.items) (sym c.into_vec.ensures)
      (c.in_ok-push_block.ensures c.if-not-branch.false);
}
