use Rattle.std.proofs.Common.{◌≡◌}
use Rattle.racp_links.specs.Faults.{jobs_before, AreWellBefore}
use Rattle.racp_links.proofs.check.check.Given as goal

abbrev pub invariant-loop-place : goal.invariant-loop-place
invariant-loop-place l = record {
  jobs : l.jobs ≡ jobs_before l.durations l.links l.place;
  before : AreWellBefore l.durations l.links l.place;
}
