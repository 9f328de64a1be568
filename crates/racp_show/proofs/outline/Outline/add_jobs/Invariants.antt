use Rattle.std.proofs.Common.{◌≡◌}
use Rattle.racp_show.specs.Entries.{outlined}
use Rattle.racp_show.specs.Outlines.{with_more}
use Rattle.racp_show.proofs.outline.Outline.add_jobs.Given as goal

abbrev pub invariant-loop-job : goal.invariant-loop-job
invariant-loop-job l = outlined l.self ≡ with_more l.jobs l._job (outlined l.initial.self)
