use Rattle.std.proofs.Common.{◌≡◌, ◌+◌}
use Rattle.racp_bounds.specs.Sharp.{AreSharpenedBefore}
use Rattle.racp_bounds.proofs.sharp.sharpen.Given as goal

abbrev pub invariant-loop-k : goal.invariant-loop-k
invariant-loop-k g l = record {
  network : g.A.Asker.about l.asker l.net;
  answered : g.A.Asker.answered l.asker ≡ g.A.Asker.answered l.fn.asker + l.k;
  sharpened : AreSharpenedBefore l.net l.root l.fn.floors l.roofs l.k l.reached;
}
