use Rattle.std.proofs.Common.{◌≤◌}
use Rattle.racp_by_questions.specs.Fixing.{IsFixedBefore}
use Rattle.racp_by_questions.proofs.starts.least_starts.Given as goal

abbrev pub invariant-loop-j : goal.invariant-loop-j
invariant-loop-j g l = record {
  network : g.A.Asker.about l.asker l.net;
  no_fewer : g.A.Asker.answered l.fn.asker ≤ g.A.Asker.answered l.asker;
  fixed : IsFixedBefore l.net l.capacities l.root l.j l.window;
}
