use Rattle.std.proofs.lemmas.List.Filters.{dedup_is}
use Rattle.racp_model.proofs.Sorting.{pair_eq, sorted_set}
use Rattle.racp_model.proofs.topology.sorted.Goals as goal

pub returns : goal.returns
returns c = sorted_set c.args.arcs.items c.sort_unstable.new.self.items c.dedup.new.self.items c.sort_unstable.ensures.permutation c.sort_unstable.ensures.sorted
    (dedup_is pair_eq c.sort_unstable.new.self.items c.dedup.new.self.items c.dedup.ensures.filtered)
