use Rattle.std.proofs.Common.{◌≡◌, ◌+◌}
use Rattle.racp_bounds.proofs.Counting.{rows_before, pairs_before}
use Rattle.racp_bounds.proofs.Refuting.{ArePairsBefore}
use Rattle.racp_bounds.proofs.sharp.refuted_pairs.Given as goal

abbrev pub invariant-loop-k : goal.invariant-loop-k
invariant-loop-k g l = record {
  network : g.A.Asker.about l.asker l.net;
  answered : g.A.Asker.answered l.asker ≡ g.A.Asker.answered l.fn.asker + rows_before l.net.resources l.k;
  refuted : ArePairsBefore l.net l.root l.bounds.floors.now l.bounds.roofs.now l.k 0 l.pairs.items;
}

abbrev pub invariant-loop-l : goal.invariant-loop-l
invariant-loop-l g l = record {
  network : g.A.Asker.about l.asker l.net;
  answered : g.A.Asker.answered l.asker ≡ g.A.Asker.answered l.fn.asker + pairs_before l.net.resources l.k l.l;
  refuted : ArePairsBefore l.net l.root l.bounds.floors.now l.bounds.roofs.now l.k l.l l.pairs.items;
}
