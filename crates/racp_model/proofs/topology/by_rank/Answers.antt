use Rattle.std.proofs.Common.{ℕ, rules, slice_index}
use Rattle.std.proofs.lemmas.List.Sorted.{IsNonDecreasingBy-from_sort_by_key}
use Rattle.racp_model.proofs.Topological.{pairs_moved}
use Rattle.racp_model.proofs.topology.by_rank.Goals as goal

pub returns : goal.returns
returns c = record {
  same = pairs_moved c.args.arcs.now c.in_ok-pairs.pairs.items c.sort_unstable_by_key.new.self.items c.in_ok-pairs.ensures c.sort_unstable_by_key.ensures.permutation;
  sorted = λ a b o l. IsNonDecreasingBy-from_sort_by_key (λ (pair : ℕ × ℕ). slice_index c.args.rank.now pair.0) _ c.sort_unstable_by_key.ensures.sorted (λ x r q k. search rules) a b (0, 0) o l;
}
